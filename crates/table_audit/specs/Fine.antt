-- Defines when an audit finds no discrepancy in a meter's rows.
use Rattle.std.specs.Prelude.{◌≡◌, ◌↔◌, ℕ, Bool, List, [], ◌∷◌, Ok, IsTrue}
use Rattle.interval_core.specs.declared.shares.Share.{Share}
use Rattle.meter_journal.specs.declared.audit.rows.TableRow.{TableRow}
use Rattle.store_tables.specs.declared.meters.rows.InstallationRow.{InstallationRow}
use Rattle.table_audit.specs.declared.rows.MeterRows.{MeterRows}
use Rattle.table_audit.specs.declared.rows.VoidRow.{VoidRow}
use Rattle.table_audit.specs.Reading.{entry_in, void_in, share_in, range_in, all_in}
use Rattle.store_tables.specs.Content.{Content}
use Rattle.table_audit.specs.Lawful.{IsLawful}
use Rattle.table_audit.specs.Showing.{AreRowsOf}

-- States that all values in the meter's rows are in the ranges of their columns, and that the meter
-- has exactly one counter range. The rows follow from a history of the meter that the rules for
-- meter entries accept.
pub record IsFine (installation : InstallationRow) (rows : MeterRows) : Type 0 where
  pub range : ℕ
  pub voids : List VoidRow
  pub entries : List TableRow
  pub shares : List Share
  pub range_read : all_in range_in rows.ranges.items ≡ Ok (range ∷ [])
  pub voids_read : all_in void_in rows.voids.items ≡ Ok voids
  pub entries_read : all_in (entry_in voids) rows.entries.items ≡ Ok entries
  pub shares_read : all_in share_in rows.intervals.items ≡ Ok shares
  pub lawful : IsLawful range installation voids entries shares

-- True if the Boolean `fine` is true exactly when the meter's rows follow from a history that the
-- rules for meter entries accept.
pub record ReportsFine (meter : List ℕ) (installation : InstallationRow) (content : Content)
    (fine : Bool) : Type 0 where
  pub rows : MeterRows
  pub theirs : AreRowsOf meter content rows
  pub reported : IsTrue fine ↔ IsFine installation rows
