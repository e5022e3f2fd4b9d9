-- Defines the results of queries for a run of polls (`RUN` consecutive poll numbers), over tables
-- with any content.
use Rattle.std.specs.Prelude.{◌≡◌, ℕ, ℤ, pos, negsuc, ◌+◌, ◌*◌, ◌==◌, Bool, false, ◌&&◌, List, [], ◌∷◌, if◌then◌else◌}
use Rattle.std.specs.Ordering.{is_gt}
use Rattle.sqlite.specs.Collation.TheVariants.{Binary}
use Rattle.sqlite.specs.Ops.{binary, is_true}
use Rattle.sqlite.specs.declared.types.Value.{Value}
use Rattle.sqlite.specs.declared.types.Value.TheVariants.{Int}
use Rattle.sqlite.specs.Order.{Row, column, value_cmp}
use Rattle.sqlite_sql.specs.declared.ops.BinaryOp.TheVariants.{Compare}
use Rattle.sqlite_sql.specs.declared.ops.CompareOp.TheVariants.{Ge, Le}
use Rattle.store_tables.specs.Answer.{every}
use Rattle.store_tables.specs.Asking.{Shows, ShowsFirst}
use Rattle.store_tables.specs.Content.{Content}
use Rattle.table_audit.specs.Showing.{InPlace}
use Rattle.table_audit.specs.declared.poll_rows.RunRows.{RunRows}
use Rattle.table_audit.specs.declared.poll_rows.TheConstants.{RUN}

-- The number of the B-tree that stores the table `polls`.
abbrev pub polls_tree : ℕ
polls_tree = 11

-- The number of the B-tree that stores the table `outcomes`.
abbrev pub outcomes_tree : ℕ
outcomes_tree = 13

-- The least 64-bit integer, which is the least integer in SQLite.
abbrev pub least_number : ℤ
least_number = negsuc 9223372036854775807

-- The least poll number in the run of polls (`RUN` consecutive numbers) at index `run`. The run at
-- index 0 includes all poll numbers below 1.
abbrev pub low_of : (run : ℕ) → ℤ
low_of run = if run == 0 then least_number else pos (run * RUN + 1)

-- The greatest poll number in the run of polls (`RUN` consecutive numbers) at index `run`.
abbrev pub high_of : (run : ℕ) → ℤ
high_of run = pos ((run + 1) * RUN)

-- True if a value is at least `low`, as SQL compares values.
abbrev pub is_from : (low : ℤ) → Value → Bool
is_from low v = is_true (binary (Compare Ge Binary) v (Int low))

-- True if a value is at most `high`, as SQL compares values.
abbrev pub is_up_to : (high : ℤ) → Value → Bool
is_up_to high v = is_true (binary (Compare Le Binary) v (Int high))

-- True if the value in the row's first column is from `low` to `high`, as SQL compares values.
abbrev pub is_between : (low high : ℤ) → Row → Bool
is_between low high row = is_from low (column row 0) && is_up_to high (column row 0)

-- True if the poll number in the row's first column belongs to the run (consecutive poll numbers)
-- at index `run`.
abbrev pub is_in_run : (run : ℕ) → Row → Bool
is_in_run run row = is_between (low_of run) (high_of run) row

-- The descending order of rows by their first column, as SQL compares values.
abbrev pub FromLast : Row → Row → Type 0
FromLast row later = is_gt (value_cmp (column later 0) (column row 0)) ≡ false

abbrev pub number_shown : Row → Row
number_shown row = column row 0 ∷ []

-- The result row of a query for a poll. It has the poll's number, the columns that follow the
-- device's name in the table, and last the device's name.
abbrev pub poll_shown : Row → Row
poll_shown row =
    column row 0 ∷ column row 3 ∷ column row 4 ∷ column row 5 ∷ column row 6 ∷ column row 7
    ∷ column row 8 ∷ column row 2 ∷ []

-- The result row of a query for an outcome: its poll's number, timestamp, kind and code.
abbrev pub outcome_shown : Row → Row
outcome_shown row = column row 0 ∷ column row 2 ∷ column row 3 ∷ column row 4 ∷ []

-- True if a query returns the greatest poll number in the tables, or no row if there is no poll.
abbrev pub ShowsLast : Content → List Row → Type 0
ShowsLast content rows = ShowsFirst every FromLast number_shown (content polls_tree) rows

-- True if a query returns the polls of a run (consecutive poll numbers), in ascending order of
-- their numbers.
abbrev pub ShowsPolls : (run : ℕ) → Content → List Row → Type 0
ShowsPolls run content rows =
    Shows (is_in_run run) InPlace poll_shown (content polls_tree) rows

-- True if a query returns the outcomes of the polls in a run (consecutive poll numbers), in
-- ascending order of poll numbers.
abbrev pub ShowsOutcomes : (run : ℕ) → Content → List Row → Type 0
ShowsOutcomes run content rows =
    Shows (is_in_run run) InPlace outcome_shown (content outcomes_tree) rows

-- True if `rows` are all rows of the tables `polls` and `outcomes` whose poll numbers belong to the
-- run (consecutive poll numbers) at index `run`.
pub record AreRowsOfRun (run : ℕ) (content : Content) (rows : RunRows) : Type 0 where
  pub polls : ShowsPolls run content rows.polls.items
  pub outcomes : ShowsOutcomes run content rows.outcomes.items
