-- The tables of an old and a new database file, for a meter that continues from the old file into
-- the new file. Each file is audited separately. Lists of rows begin with the latest row.
use Rattle.std.specs.Prelude.{◌≡◌, ℕ, ◌+◌, ◌-◌, ◌≤◌, false, List, [], ◌∷◌, ◌++◌, map, take, length}
use Rattle.energy_core.specs.declared.limits.TheConstants.{MAX_TOTAL}
use Rattle.energy_core.specs.Account.{energy_of}
use Rattle.meter_journal.specs.declared.lines.Installed.{Installed}
use Rattle.meter_journal.specs.declared.lines.EntryRow.{EntryRow}
use Rattle.meter_journal.specs.Books.{IsWellInstalled, last_after, total_after}
use Rattle.meter_journal.specs.Intervals.{with_shares}
use Rattle.meter_journal.specs.Journal.{entries_in}
use Rattle.meter_journal.specs.declared.audit.rows.TableRow.{TableRow}
use Rattle.meter_journal.specs.Audit.Fitting.{AllFit, Tables, tables_of, AreFine, is_ended}
use Rattle.meter_journal.specs.Audit.Carried.{moved_row, AreCountedOnce}

-- The meter as it is installed in the new database file, computed from the meter's rows in the old
-- file.
abbrev pub carried_from : Installed → (old : List EntryRow) → Installed
carried_from meter old = record {
  range = meter.range;
  ceiling = meter.ceiling;
  opening = last_after meter (entries_in old);
}

-- The joined entry rows of a meter in the old and the new database file. The rows of the new file
-- are renumbered to follow the rows of the old file.
abbrev pub joined_rows : (old new : List EntryRow) → List EntryRow
joined_rows old new = map (moved_row (length old)) new ++ old

-- A table row of the new database file, with its sequence number raised by `count` for the joined
-- tables.
abbrev pub moved_reported : (count : ℕ) → TableRow → TableRow
moved_reported count reported = record reported { place = reported.place + count }

-- The table rows of a meter without the opening row (the first entry). The list begins with the
-- latest row, so the opening row is its last element.
abbrev pub without_opening : List TableRow → List TableRow
without_opening entries = take (length entries - 1) entries

-- States that `both` are the joined tables of a meter in an old and a new database file. The
-- entries of the new file, without its opening (first) entry, follow the entries of the old file,
-- and the energies add up. The last entry is the last entry of the new file. A quarter hour in both
-- files has one row in the joined tables, with the energy of both.
pub record AreOne (count : ℕ) (old new both : Tables) : Type 0 where
  pub entries : both.entries ≡ map (moved_reported count) (without_opening new.entries) ++ old.entries
  pub last : both.last ≡ new.last
  pub total : both.total ≡ old.total + new.total
  pub intervals : both.intervals ≡ with_shares old.intervals new.intervals
  pub once : AreCountedOnce old.intervals new.intervals both.intervals
  pub ended : both.ended ≡ new.ended

-- Theorem: suppose that a meter is open at the end of the old database file, and the rules for
-- meter entries accept its rows in both files. Then the joined tables of both files are those of
-- one meter (`AreOne`).
abbrev pub CarriedTablesAreOne : Type 0
CarriedTablesAreOne = (meter : Installed) (old new : List EntryRow) → IsWellInstalled meter
    → AllFit meter old
    → is_ended old ≡ false
    → AllFit (carried_from meter old) new
    → AreOne (length old) (tables_of meter old) (tables_of (carried_from meter old) new)
    (tables_of meter (joined_rows old new))

-- States that no entry of the new database file, valid or voided (cancelled), raises the energy of
-- both files above the limit of one meter.
abbrev pub EntriesStayWithin : Installed → (old new : List EntryRow) → Type 0
EntriesStayWithin meter old [] = Unit {0}
EntriesStayWithin meter old (row ∷ rows) =
    let now = carried_from meter old in
    (total_after meter (entries_in old) + total_after now (entries_in rows)
    + energy_of meter.range (last_after now (entries_in rows)) row.entry
    ≤ MAX_TOTAL)
    × EntriesStayWithin meter old rows

-- Theorem: under three conditions, the joined tables of a meter in two database files are
-- consistent (those of entries that the rules for meter entries accept). The meter is open at the
-- end of the old file, the rules accept each file's rows, and the energy stays within its limit.
abbrev pub CarriedTablesAreFine : Type 0
CarriedTablesAreFine = (meter : Installed) (old new : List EntryRow) → IsWellInstalled meter
    → AllFit meter old
    → is_ended old ≡ false
    → AllFit (carried_from meter old) new
    → EntriesStayWithin meter old new
    → AreFine meter (tables_of meter (joined_rows old new))
