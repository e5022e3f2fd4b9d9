-- Defines the progress of a check of a meter's tables: the rows that passed, and the interval rows
-- (energies by quarter hour) that are still to be compared.
use Rattle.std.specs.Prelude.{◌≡◌, ◌↔◌, ℕ, ◌-◌, ◌≤◌, List, [], ◌∷◌, ◌++◌, length, take, Option, Some, None, Err}
use Rattle.interval_core.specs.declared.shares.Share.{Share}
use Rattle.interval_core.specs.Account.{energy_of}
use Rattle.meter_journal.specs.declared.lines.Installed.{Installed}
use Rattle.meter_journal.specs.declared.lines.EntryRow.{EntryRow}
use Rattle.meter_journal.specs.Books.{IsWellInstalled, steps_after}
use Rattle.meter_journal.specs.Intervals.{rows_of_steps}
use Rattle.meter_journal.specs.Journal.{entries_in}
use Rattle.meter_journal.specs.declared.audit.faults.RowFault.{RowFault}
use Rattle.meter_journal.specs.declared.audit.progress.Progress.{Progress}
use Rattle.meter_journal.specs.declared.audit.rows.TableRow.{TableRow}
use Rattle.meter_journal.specs.Audit.Rows.{opening_row, later_rows}
use Rattle.meter_journal.specs.Audit.Fitting.{AreReported, Tables, AreFine}
use Rattle.meter_journal.specs.Audit.Passing.{IsSoundCheck, passed}
use Rattle.meter_journal.specs.Audit.Laws.{HasTaken}

-- The invariant of a check of a meter's tables in progress. The numbers in the state of the check
-- are within their limits (`IsSoundCheck`). The interval rows (energies by quarter hour) that are
-- still to be compared have at most the energy that the check added up.
pub record IsSoundProgress (meter : Installed) (progress : Progress) : Type 0 where
  pub check : IsSoundCheck meter progress.check
  pub within : energy_of progress.wanted.items ≤ progress.check.total

-- States that the check of a meter's tables has passed the table rows `reported`, the latest first.
-- These rows encode entry rows that the rules for meter entries accept. The compared interval rows
-- (energies by quarter hour) and those still to be compared together are all interval rows of the
-- entries.
pub record HasGone (meter : Installed) (reported : List TableRow) (done : List Share)
    (progress : Progress) : Type 0 where
  pub rows : List EntryRow
  pub taken : HasTaken meter rows progress.check
  pub reported_is : reported ≡ later_rows meter rows
  pub intervals : done ++ progress.wanted.items
      ≡ rows_of_steps (steps_after meter (entries_in rows))
  -- If no interval row (the energy of a quarter hour) is pending (still to be compared), then no
  -- interval row was removed after a comparison.
  pub begun : progress.wanted.items ≡ [] → done ≡ []

-- If no fault is reported, states that the audit of a meter's tables has processed `row` and found
-- no fault in it. If a fault is reported, states that the audit refuses the row for this fault.
abbrev pub GoesOver : Installed → Progress → TableRow → Progress → Option RowFault → Type 0
GoesOver meter old row new None = (reported : List TableRow) (done : List Share)
    → HasGone meter reported done old → HasGone meter (row ∷ reported) done new
GoesOver meter old row new (Some fault) = passed meter old.check row ≡ Err fault

-- The number of pending interval rows (still to be compared) to which no later entry can add
-- energy: all rows except the last.
abbrev pub settled_in : List Share → ℕ
settled_in rows = length rows - 1

-- States that the function `drop_done` moves interval rows from the pending rows (still to be
-- compared) to the compared rows. It moves the rows to which no later entry can add energy. The
-- passed table rows are unchanged.
abbrev pub DropsDone : (old new : Progress) → Type 0
DropsDone old new = (meter : Installed) (reported : List TableRow) (done : List Share)
    → HasGone meter reported done old
    → HasGone meter reported (done ++ take (settled_in old.wanted.items) old.wanted.items) new

-- States that the tables of a meter agree with the check of its entries. They have the computed
-- interval rows (energies by quarter hour), last valid (not voided) entry and energy, and say
-- correctly whether the meter was closed.
pub record Agrees (tables : Tables) (done : List Share) (progress : Progress) : Type 0 where
  pub intervals : tables.intervals ≡ done ++ progress.wanted.items
  pub last : tables.last ≡ progress.check.last
  pub total : tables.total ≡ progress.check.total
  pub ended : tables.ended ≡ progress.check.is_ended

-- Theorem: suppose that all entry rows of a meter passed the check of its tables. The tables are
-- consistent if and only if their other values (such as the energy and the interval rows) agree
-- with the result of the check.
abbrev pub FinishedIsFine : Type 0
FinishedIsFine = (meter : Installed) (reported : List TableRow) (done : List Share)
    (progress : Progress) (tables : Tables) → HasGone meter reported done progress
    → tables.entries ≡ reported ++ opening_row meter.opening ∷ []
    → AreFine meter tables ↔ Agrees tables done progress

-- Theorem: if the check of a meter's tables refuses a row, this row and the rows before it encode
-- no lawful list of entry rows. A list is lawful if the rules for meter entries accept it. Rows
-- that follow the refused row change nothing.
abbrev pub RefusedIsNotFine : Type 0
RefusedIsNotFine = (meter : Installed) (reported newer : List TableRow) (done : List Share)
    (progress : Progress) (row : TableRow) (fault : RowFault) → IsWellInstalled meter
    → HasGone meter reported done progress → passed meter progress.check row ≡ Err fault
    → AreReported meter (newer ++ row ∷ reported) → ⊥
