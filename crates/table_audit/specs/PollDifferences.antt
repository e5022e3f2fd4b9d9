-- Defines the discrepancies that an audit reports for one run of polls, in order. A run has `RUN`
-- consecutive poll numbers.
use Rattle.std.specs.Prelude.{ℕ, suc, min, max, ◌+◌, ◌-◌, ◌*◌, ◌==◌, Bool, false, nat_lt, nat_le, ◌&&◌, List, [], ◌∷◌, ◌++◌, Option, Some, None, Result, Ok, Err, if◌then◌else◌, unwrap_or}
use Rattle.std.specs.List.{list_any}
use Rattle.std.specs.Option.{option_map_or}
use Rattle.sqlite.specs.Order.{Row, column}
use Rattle.store_tables.specs.Columns.{whole_in}
use Rattle.store_tables.specs.Limits.{greatest_place}
use Rattle.store_tables.specs.declared.faults.RowFault.{RowFault}
use Rattle.table_audit.specs.PollReading.{poll_in, outcome_in}
use Rattle.table_audit.specs.declared.differences.Difference.{Difference}
use Rattle.table_audit.specs.declared.differences.Difference.TheVariants.{Poll, NoPolls}
use Rattle.table_audit.specs.declared.differences.PollFault.{PollFault}
use Rattle.table_audit.specs.declared.differences.PollFault.TheVariants.{OutOfRange, EndOutOfRange, OutOfOrder, EndedBefore, StartedBefore}
use Rattle.table_audit.specs.declared.poll_rows.OutcomeRow.{OutcomeRow}
use Rattle.table_audit.specs.declared.poll_rows.PollRow.{PollRow}
use Rattle.table_audit.specs.declared.poll_rows.RunRows.{RunRows}
use Rattle.table_audit.specs.declared.poll_rows.TheConstants.{RUN}

-- The first poll number of a run of polls. A run has `RUN` consecutive numbers, and the first run
-- has the index 0.
abbrev pub first_number : (run : ℕ) → ℕ
first_number run = run * RUN + 1

-- The last poll number of a run of polls (`RUN` consecutive numbers). It is at most `last`, the
-- greatest number of all polls.
abbrev pub last_number : (run last : ℕ) → ℕ
last_number run last = min last ((run + 1) * RUN)

-- Concatenates the lists of discrepancies that the function `differs` returns for all rows, in the
-- order of the rows.
abbrev pub each_of : (Row → List Difference) → List Row → List Difference
each_of differs [] = []
each_of differs (row ∷ rows) = differs row ++ each_of differs rows

-- The poll number in the first column of a row, or None if the number is out of range.
abbrev pub number_in : Row → Option ℕ
number_in row = whole_in 1 greatest_place (column row 0)

-- If a row can't be parsed (a value is out of range), a list with the discrepancy `fault`,
-- otherwise an empty list. The discrepancy has the row's poll number, or 0 if this number is out of
-- range.
abbrev pub unread : {X : Type 0} → PollFault → Row → Result X RowFault → List Difference
unread fault row (Ok read) = []
unread fault row (Err why) = Poll (unwrap_or (number_in row) 0) fault ∷ []

-- A list with one discrepancy if a `polls` row has a value out of range, otherwise an empty list.
abbrev pub unread_poll : Row → List Difference
unread_poll row = unread OutOfRange row (poll_in row)

-- A list with one discrepancy if an `outcomes` row has a value out of range, otherwise an empty
-- list.
abbrev pub unread_outcome : Row → List Difference
unread_outcome row = unread EndOutOfRange row (outcome_in row)

-- The poll number of a `polls` row, or None if this number is out of range. The second argument is
-- the result of parsing the row, which fails if any column is out of range.
abbrev pub number_by : Row → Result PollRow RowFault → Option ℕ
number_by row (Ok poll) = Some poll.number
number_by row (Err why) = number_in row

-- The poll number of a `polls` row, or None if this number is out of range. It does not matter
-- whether other columns of the row are out of range.
abbrev pub number_of : Row → Option ℕ
number_of row = number_by row (poll_in row)

-- A list with one discrepancy, which is that no poll has a number from `next` to `below` - 1. The
-- list is empty if `next` is not less than `below`.
abbrev pub gap : (next below : ℕ) → List Difference
gap next below = if nat_lt next below then NoPolls next (below - 1) ∷ [] else []

-- True if the poll number `number` is from `next` to `last`.
abbrev pub rises : (next last number : ℕ) → Bool
rises next last number = nat_le next number && nat_le number last

-- The discrepancies that the audit reports at the poll number `number` if it expected `next`.
-- Either the numbers from `next` to `number` - 1 are missing, or `number` is out of order.
abbrev pub reported_at : (next last number : ℕ) → List Difference
reported_at next last number =
    if rises next last number then gap next number else Poll number OutOfOrder ∷ []

-- The poll number that is expected after `number`, if `next` was expected. If `number` is out of
-- order, `next` is still expected.
abbrev pub next_after : (next last number : ℕ) → ℕ
next_after next last number = if rises next last number then number + 1 else next

-- The discrepancies in the numbering that the audit reports at a `polls` row, if `next` is the
-- expected poll number. A row whose number can't be parsed adds none.
abbrev pub reported_by : (next last : ℕ) → Option ℕ → List Difference
reported_by next last None = []
reported_by next last (Some number) = reported_at next last number

-- The poll number that an audit expects after a row of `polls`. If the number in the row can't be
-- parsed, the audit still expects `next`.
abbrev pub after_by : (next last : ℕ) → Option ℕ → ℕ
after_by next last None = next
after_by next last (Some number) = next_after next last number

-- The discrepancies in the poll numbers of several rows: numbers from `next` to `last` that are
-- missing, and numbers out of order.
abbrev pub order_of : (next last : ℕ) → List Row → List Difference
order_of next last [] = gap next (last + 1)
order_of next last (row ∷ rows) =
    reported_by next last (number_of row)
    ++ order_of (after_by next last (number_of row)) last rows

-- True if an outcome belongs to the poll in a row, and the poll started no later than the outcome's
-- timestamp. If the row can't be parsed (a value is out of range), only the poll number is
-- compared.
abbrev pub began_by : OutcomeRow → Row → Result PollRow RowFault → Bool
began_by outcome row (Ok poll) =
    (poll.number == outcome.poll) && nat_le poll.started outcome.moment
began_by outcome row (Err why) =
    option_map_or (λ number. number == outcome.poll) (number_in row) false

-- True if an outcome belongs to the poll in the `polls` row, and the poll started no later than the
-- outcome's timestamp.
abbrev pub began : OutcomeRow → Row → Bool
began outcome row = began_by outcome row (poll_in row)

abbrev pub early_by : (polls : List Row) → Result OutcomeRow RowFault → List Difference
early_by polls (Ok outcome) =
    if list_any (began outcome) polls then [] else Poll outcome.poll EndedBefore ∷ []
early_by polls (Err why) = []

-- A list with one discrepancy if an outcome belongs to no poll, or has an earlier timestamp than
-- its poll. Otherwise the list is empty.
abbrev pub early : (polls : List Row) → Row → List Difference
early polls row = early_by polls (outcome_in row)

-- The latest start of polls, after a `polls` row is added to earlier polls. `since` is the latest
-- start of the earlier polls. A row that can't be parsed (a value is out of range) changes nothing.
abbrev pub later_start : (since : ℕ) → Result PollRow RowFault → ℕ
later_start since (Ok poll) = max since poll.started
later_start since (Err why) = since

-- The latest start of all polls in a list of `polls` rows and of earlier polls. `since` is the
-- latest start of the earlier polls.
abbrev pub latest_start : (since : ℕ) → List Row → ℕ
latest_start since [] = since
latest_start since (row ∷ rows) = latest_start (later_start since (poll_in row)) rows

-- A list with one discrepancy if a poll started before `since`, the latest start of the earlier
-- polls. Otherwise the list is empty.
abbrev pub fallen_by : (since : ℕ) → Result PollRow RowFault → List Difference
fallen_by since (Ok poll) =
    if nat_lt poll.started since then Poll poll.number StartedBefore ∷ [] else []
fallen_by since (Err why) = []

-- The discrepancies of all polls in a list of `polls` rows that started before an earlier poll.
-- `since` is the latest start of the polls before the list.
abbrev pub fallen_from : (since : ℕ) → List Row → List Difference
fallen_from since [] = []
fallen_from since (row ∷ rows) =
    fallen_by since (poll_in row) ++ fallen_from (later_start since (poll_in row)) rows

-- The discrepancies for all rows of one run of polls (`RUN` consecutive numbers) that have values
-- out of range.
abbrev pub values_of : RunRows → List Difference
values_of rows =
    each_of unread_poll rows.polls.items ++ each_of unread_outcome rows.outcomes.items

-- The discrepancies in the numbers and timestamps of a run of polls (`RUN` consecutive numbers):
-- missing numbers, numbers out of order, polls that started before earlier polls, and outcomes
-- earlier than their polls. `since` is the latest start of the polls of earlier runs.
abbrev pub turns_of : (run last since : ℕ) → RunRows → List Difference
turns_of run last since rows =
    order_of (first_number run) (last_number run last) rows.polls.items
    ++ fallen_from since rows.polls.items
    ++ each_of (early rows.polls.items) rows.outcomes.items

-- All discrepancies of one run of polls (`RUN` consecutive numbers): first values out of range,
-- then missing or disordered poll numbers, then polls that started before earlier polls, then
-- outcomes earlier than their polls. `since` is the latest start of the polls of earlier runs.
abbrev pub differences_of_run : (run last since : ℕ) → RunRows → List Difference
differences_of_run run last since rows = values_of rows ++ turns_of run last since rows

-- All discrepancies of consecutive runs of polls (`RUN` consecutive numbers each), beginning with
-- the run at index `run`. `since` is the latest start of the polls of earlier runs.
abbrev pub differences_of_runs : (run last since : ℕ) → List RunRows → List Difference
differences_of_runs run last since [] = []
differences_of_runs run last since (rows ∷ others) =
    differences_of_run run last since rows
    ++ differences_of_runs (suc run) last (latest_start since rows.polls.items) others

-- The latest start of all polls in consecutive runs (`RUN` consecutive numbers each) and of earlier
-- polls. `since` is the latest start of the earlier polls.
abbrev pub latest_of_runs : (since : ℕ) → List RunRows → ℕ
latest_of_runs since [] = since
latest_of_runs since (rows ∷ others) = latest_of_runs (latest_start since rows.polls.items) others
