-- Definitions about the pending polls: Modbus reads that were started and have no outcome yet.
use Rattle.std.specs.Prelude.{Bool, not, List, Result, MatchResult}
use Rattle.std.specs.List.{list_any}
use Rattle.sqlite.specs.Order.{Row}
use Rattle.sqlite.specs.declared.error.Error.{Error}
use Rattle.sqlite.specs.Store.{Ghosts}
use Rattle.sqlite.specs.Held.{Held, state}
use Rattle.sqlite.specs.State.{HasCleanDisk}
use Rattle.store_tables.specs.Content.{Content, AreTables, HasRows}
use Rattle.store_tables.specs.Answer.{FirstFirst}
use Rattle.store_tables.specs.Failing.{IsStoreError}
use Rattle.store_tables.specs.Asking.{Shows}
use Rattle.store_tables.specs.declared.polls.rows.OutcomeRow.{OutcomeRow}
use Rattle.store_tables.specs.Polls.Rows.{Started, poll_columns, poll_shown, poll_number, outcome_columns, is_outcome_of}
use Rattle.store_tables.specs.Polls.Trees.{polls, outcomes}

-- True if a poll is pending: no outcome in the given list belongs to the poll.
abbrev pub is_pending : List OutcomeRow → Started → Bool
is_pending ended p = not (list_any (is_outcome_of p.row.number) ended)

-- True if the query for the pending polls, at Ok, returned the rows of the polls without an
-- outcome, ordered by poll number. Any error has a permitted cause, such as out of memory.
abbrev pub ShowsPending : {S A : Type 0} → Ghosts S → (old new : Held S)
    → (result : Result A Error) → (rows : A → List Row) → Type 0
ShowsPending g old new result rows =
    HasCleanDisk (state g new) → (content : Content) → AreTables (state g old).now content
    → (started : List Started) → HasRows polls poll_columns started content
    → (ended : List OutcomeRow) → HasRows outcomes outcome_columns ended content
    → MatchResult result
    (λ answer. Shows (is_pending ended) (FirstFirst poll_number) poll_shown started (rows answer))
    (IsStoreError (state g old) (state g new))
