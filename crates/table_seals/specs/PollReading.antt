-- Parses rows of polls and outcomes, and pairs each poll with its outcome.
use Rattle.std.specs.Borrow.{Bor}
use Rattle.std.specs.Prelude.{◌≡◌, ℕ, suc, ◌+◌, ◌==◌, List, [], ◌∷◌, ◌++◌, length, drop, Option, Some, None, Result, Ok, Err, if◌then◌else◌}
use Rattle.std.specs.List.{fold}
use Rattle.sqlite.specs.declared.types.Value.{Value}
use Rattle.sqlite.specs.declared.types.Value.TheVariants.{Null, Int, Real, Text, Blob}
use Rattle.sqlite.specs.Order.{Row, column}
use Rattle.store_tables.specs.declared.faults.RowFault.{RowFault}
use Rattle.store_tables.specs.Columns.{whole_in, or_damaged, and_then}
use Rattle.store_tables.specs.Limits.{greatest_place}
use Rattle.table_audit.specs.declared.poll_rows.RunRows.{RunRows}
use Rattle.table_seals.specs.declared.poll_values.Ending.{Ending}
use Rattle.table_seals.specs.declared.poll_values.PollNumbers.{PollNumbers}
use Rattle.table_seals.specs.Tables.{is_word}

-- Parses the numeric columns of a poll's row. If a column is out of its range, the result is the
-- error that reports a damaged file.
abbrev pub numbers_in : Row → Result PollNumbers RowFault
numbers_in row =
    and_then (or_damaged (whole_in 1 greatest_place (column row 0))) (λ number.
    and_then (or_damaged (whole_in 0 greatest_place (column row 1))) (λ unit.
    and_then (or_damaged (whole_in 0 greatest_place (column row 2))) (λ started.
    and_then (or_damaged (whole_in 0 greatest_place (column row 3))) (λ tid.
    and_then (or_damaged (whole_in 0 greatest_place (column row 4))) (λ function.
    and_then (or_damaged (whole_in 0 greatest_place (column row 5))) (λ address.
    and_then (or_damaged (whole_in 0 greatest_place (column row 6))) (λ count.
    Ok (record {
      number = number;
      unit = unit;
      started = started;
      tid = tid;
      function = function;
      address = address;
      count = count;
    }))))))))

-- The text of an SQL value if the text is a word, which means that all its bytes are greater than
-- 32. Otherwise None.
abbrev pub word_in : Value → Option (List ℕ)
word_in (Text t) = if is_word t then Some t else None
word_in Null = None
word_in (Int n) = None
word_in (Real x) = None
word_in (Blob b) = None

-- States that a result is the text in a column if this text is a word (all its bytes are greater
-- than 32). Otherwise, also for values of other types, the result is None.
abbrev pub IsWordIn : Value → Option (Bor (List ℕ)) → Type 0
IsWordIn v None = word_in v ≡ None
IsWordIn v (Some word) = word_in v ≡ Some word.now

-- Parses an outcome from a row. If a column is out of its range, the result is the error that
-- reports a damaged file.
abbrev pub ending_in : Row → Result Ending RowFault
ending_in row =
    and_then (or_damaged (whole_in 1 greatest_place (column row 0))) (λ poll.
    and_then (or_damaged (whole_in 0 greatest_place (column row 1))) (λ moment.
    and_then (or_damaged (whole_in 0 greatest_place (column row 2))) (λ kind.
    and_then (or_damaged (whole_in 0 greatest_place (column row 3))) (λ code.
    Ok (record { poll = poll; moment = moment; kind = kind; code = code })))))

-- A poll with its device's name and its outcome. A poll without an outcome is pending.
pub record ReadPoll : Type 0 where
  pub numbers : PollNumbers
  pub device : List ℕ
  pub ending : Option Ending

-- The parsed outcome if it belongs to the poll with the number `number`, otherwise None.
abbrev pub if_of : (number : ℕ) → Result Ending RowFault → Option Ending
if_of number (Err e) = None
if_of number (Ok ending) = if ending.poll == number then Some ending else None

-- The outcome in the first of the given rows of `outcomes`, if it belongs to the poll with the
-- number `number`, otherwise None.
abbrev pub ending_at : (number : ℕ) → List Row → Option Ending
ending_at number [] = None
ending_at number (row ∷ rows) = if_of number (ending_in row)

-- The outcome rows that remain after a poll was paired with `ending`. If `ending` is an outcome,
-- these are the rows without the first row.
abbrev pub rows_after : Option Ending → List Row → List Row
rows_after None rows = rows
rows_after (Some ending) rows = drop 1 rows

-- The parsed poll if it has the number `number` and its device's name is a word, otherwise None.
abbrev pub if_numbered : (number : ℕ) → Result PollNumbers RowFault → Option (List ℕ)
    → Option Ending → Option ReadPoll
if_numbered number (Err e) word ending = None
if_numbered number (Ok numbers) None ending = None
if_numbered number (Ok numbers) (Some device) ending =
    if numbers.number == number
    then Some (record { numbers = numbers; device = device; ending = ending }) else None

-- The poll in a table row if the row's values are in their ranges, the device's name is a word and
-- the row has the poll number `number`. Otherwise None.
abbrev pub poll_at : (number : ℕ) → Row → Option Ending → Option ReadPoll
poll_at number row ending = if_numbered number (numbers_in row) (word_in (column row 7)) ending

abbrev pub and_more : Option ReadPoll → Option (List ReadPoll) → Option (List ReadPoll)
and_more None more = None
and_more (Some poll) None = None
and_more (Some poll) (Some polls) = Some (poll ∷ polls)

-- The polls in rows of `polls`, each with its outcome from rows of `outcomes`. None if a value is
-- out of its range or a device's name has a space or control byte. Also None if a poll number is
-- missing, or an outcome has no poll in these rows.
abbrev pub polls_in : (next : ℕ) → (polls outcomes : List Row) → Option (List ReadPoll)
polls_in next [] [] = Some []
polls_in next [] (row ∷ rows) = None
polls_in next (row ∷ rows) outcomes =
    and_more (poll_at next row (ending_at next outcomes))
    (polls_in (suc next) rows (rows_after (ending_at next outcomes) outcomes))

abbrev pub after : List ReadPoll → Option (List ReadPoll) → Option (List ReadPoll)
after polls None = None
after polls (Some more) = Some (polls ++ more)

-- Appends the polls of the next run (`RUN` consecutive numbers) to the polls of the earlier runs.
-- The result is None if a row can't be parsed, a poll number is missing, or an outcome has no poll.
abbrev pub with_run : Option (List ReadPoll) → RunRows → Option (List ReadPoll)
with_run None rows = None
with_run (Some polls) rows =
    after polls (polls_in (length polls + 1) rows.polls.items rows.outcomes.items)

-- The polls of consecutive runs of `RUN` polls each, with consecutive numbers from 1. None if a row
-- can't be parsed, a poll number is missing, or an outcome has no poll.
abbrev pub polls_of : List RunRows → Option (List ReadPoll)
polls_of runs = fold with_run (Some []) runs
