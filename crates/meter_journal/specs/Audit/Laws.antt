-- Theorems about lists of a meter's entry rows in which the rules for meter entries accept each row
-- after the rows before it. Every lawful history has such rows, and their valid (not voided) rows
-- alone form a lawful history.
use Rattle.std.specs.Prelude.{◌≡◌, ◌+◌, List, ◌∷◌, length, reverse, take, slice_get, Option, Some, Ok, Err, IsOk}
use Rattle.energy_core.specs.declared.entries.Step.{Step}
use Rattle.interval_core.specs.Account.{energy_of}
use Rattle.meter_journal.specs.declared.lines.Installed.{Installed}
use Rattle.meter_journal.specs.declared.lines.EntryRow.{EntryRow}
use Rattle.meter_journal.specs.Books.{IsWellInstalled, last_after, total_after, last_in, total_in, interval_rows}
use Rattle.meter_journal.specs.Fitting.{AreFitting}
use Rattle.meter_journal.specs.Journal.{Journal, is_ended as has_closing, standing, entries_in, entries_of, rows_of}
use Rattle.meter_journal.specs.Lists.{step_past}
use Rattle.meter_journal.specs.Standing.{entering}
use Rattle.meter_journal.specs.declared.audit.checks.Check.{Check}
use Rattle.meter_journal.specs.declared.audit.lists.RefusedRow.{RefusedRow}
use Rattle.meter_journal.specs.declared.audit.rows.TableRow.{TableRow}
use Rattle.meter_journal.specs.Audit.Rows.{scale_after, table_row, later_rows}
use Rattle.meter_journal.specs.Audit.Fitting.{RowFits, AllFit, Tables, tables_of, AreFine, is_ended, last_stands}
use Rattle.meter_journal.specs.Audit.Passing.{passed}

-- Theorem: the rules for meter entries accept each row of a lawful journal, including voided
-- (cancelled) rows, after the rows before it. A journal is a meter's history.
abbrev pub RowsOfJournalsFit : Type 0
RowsOfJournalsFit = (meter : Installed) (lines : Journal) → IsWellInstalled meter
    → AreFitting meter lines
    → AllFit meter (rows_of meter.opening lines)

-- States that the valid (not voided) rows of a list alone are a lawful journal, a history that the
-- rules for meter entries accept. This journal has the same valid entries as the list.
pub record StandsAlone (meter : Installed) (rows : List EntryRow) : Type 0 where
  pub fit : AreFitting meter (entering (standing rows))
  pub entries : entries_of meter.opening (entering (standing rows)) ≡ entries_in rows

-- Theorem: if the rules for meter entries accept each row of a list after the rows before it, the
-- valid (not voided) rows alone form a lawful journal. A lawful journal is a history that the rules
-- accept.
abbrev pub FittingRowsStandAlone : Type 0
FittingRowsStandAlone = (meter : Installed) (rows : List EntryRow) → AllFit meter rows
    → StandsAlone meter rows

-- States that the tables report the state of a lawful journal (a history that the rules for meter
-- entries accept): its last entry, energy, interval rows (energies by quarter hour), and whether
-- the meter was closed. The interval rows add up to the energy.
pub record AreLawful (meter : Installed) (tables : Tables) : Type 0 where
  pub lines : Journal
  pub fit : AreFitting meter lines
  pub last : tables.last ≡ last_in meter lines
  pub total : tables.total ≡ total_in meter lines
  pub intervals : tables.intervals ≡ interval_rows meter lines
  pub ended : tables.ended ≡ has_closing lines
  pub adds_up : energy_of tables.intervals ≡ tables.total

-- Theorem: consistent tables (those of a list of entry rows that the rules for meter entries
-- accept) report the state of a lawful journal, a history that the rules accept.
abbrev pub FineTablesAreLawful : Type 0
FineTablesAreLawful = (meter : Installed) (tables : Tables) → IsWellInstalled meter
    → AreFine meter tables → AreLawful meter tables

-- Theorem: the tables of every lawful journal (a history that the rules for meter entries accept)
-- are consistent: they are those of a list of entry rows that the rules accept.
abbrev pub LawfulTablesAreFine : Type 0
LawfulTablesAreFine = (meter : Installed) (lines : Journal) → IsWellInstalled meter
    → AreFitting meter lines
    → AreFine meter (tables_of meter (rows_of meter.opening lines))

-- The state of the check of a meter's entry rows after the check has accepted all rows of the given
-- list.
abbrev pub check_after : Installed → List EntryRow → Check
check_after meter rows = record {
  place = length rows + 1;
  last = last_after meter (entries_in rows);
  total = total_after meter (entries_in rows);
  is_ended = is_ended rows;
  stands = last_stands rows;
}

-- States that the rules for meter entries accept each row of the list after the rows before it.
-- `check` is the state of the check of the meter's tables after all rows.
pub record HasTaken (meter : Installed) (rows : List EntryRow) (check : Check) : Type 0 where
  pub fit : AllFit meter rows
  pub check_is : check ≡ check_after meter rows

-- States that the table row `reported` encodes an entry row that the rules for meter entries accept
-- after `rows`. `after` is the state of the check of the meter's tables after this row. `step` is
-- the energy from the last valid (not voided) entry to the row's entry.
pub record IsTaken (meter : Installed) (rows : List EntryRow) (reported : TableRow) (after : Check)
    (step : Option Step) : Type 0 where
  pub row : EntryRow
  pub reported_is : reported ≡ table_row (scale_after meter (row ∷ rows)) row
  pub taken : HasTaken meter (row ∷ rows) after
  pub step_is : step ≡ step_past meter.range (last_after meter (entries_in rows)) row

-- Theorem: if a table row passes the check of a meter's tables, then the row encodes an entry row
-- that the rules for meter entries accept.
abbrev pub PassedRowsFit : Type 0
PassedRowsFit = (meter : Installed) (rows : List EntryRow) (check : Check) (reported : TableRow)
    (after : Check) (step : Option Step) → IsWellInstalled meter → HasTaken meter rows check
    → passed meter check reported ≡ Ok (after, step)
    → IsTaken meter rows reported after step

-- Theorem: if the rules for meter entries accept an entry row, then the table row that encodes it
-- passes the check of a meter's tables.
abbrev pub FittingRowsPass : Type 0
FittingRowsPass = (meter : Installed) (rows : List EntryRow) (check : Check) (row : EntryRow)
    → IsWellInstalled meter → HasTaken meter rows check → RowFits meter rows row
    → IsOk (passed meter check (table_row (scale_after meter (row ∷ rows)) row))

-- Theorem: two different lists of entry rows that the rules for meter entries accept never have the
-- same table rows. The entry rows can therefore be read back from the table.
abbrev pub RowsAreReportedApart : Type 0
RowsAreReportedApart = (meter : Installed) (rows others : List EntryRow) → AllFit meter rows
    → AllFit meter others → later_rows meter rows ≡ later_rows meter others → rows ≡ others

-- States that the check of a meter's tables has passed a list of table rows, the latest first.
-- These rows encode entry rows that the rules for meter entries accept, and `check` is the state of
-- the check after all of them.
pub record HasPassed (meter : Installed) (reported : List TableRow) (check : Check) : Type 0 where
  pub rows : List EntryRow
  pub taken : HasTaken meter rows check
  pub reported_is : reported ≡ later_rows meter rows

-- States that the check of a meter's tables passed the table rows before the index `at.index`, and
-- refused the row at this index for `at.fault`.
pub record IsFirstRefused (meter : Installed) (reported : List TableRow) (at : RefusedRow) :
    Type 0 where
  pub check : Check
  pub before : HasPassed meter (reverse (take at.index reported)) check
  pub row : TableRow
  pub there : slice_get reported at.index ≡ Some row
  pub refused : passed meter check row ≡ Err at.fault
