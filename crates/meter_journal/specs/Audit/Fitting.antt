-- The rules that decide which entry rows of a meter may follow one another, and which tables are
-- consistent (the tables of such rows).
use Rattle.std.specs.Prelude.{◌≡◌, ◌≢◌, ℕ, ◌+◌, ◌<◌, ◌≤◌, Bool, true, false, List, [], ◌∷◌, length, if◌then◌else◌}
use Rattle.energy_core.specs.declared.entries.Last.{Last}
use Rattle.energy_core.specs.declared.entries.Entry.{Entry}
use Rattle.energy_core.specs.declared.entries.Entry.TheVariants as entry
use Rattle.interval_core.specs.declared.shares.Share.{Share}
use Rattle.meter_journal.specs.declared.lines.Installed.{Installed}
use Rattle.meter_journal.specs.declared.lines.EntryKind.{EntryKind}
use Rattle.meter_journal.specs.declared.lines.EntryKind.TheVariants as kind
use Rattle.meter_journal.specs.declared.lines.EntryRow.{EntryRow}
use Rattle.meter_journal.specs.Books.{last_after, total_after, steps_after}
use Rattle.meter_journal.specs.Fitting.{EntryFits}
use Rattle.meter_journal.specs.Intervals.{rows_of_steps}
use Rattle.meter_journal.specs.Journal.{is_closing, entries_in}
use Rattle.meter_journal.specs.declared.audit.rows.TableRow.{TableRow}
use Rattle.meter_journal.specs.Audit.Rows.{later_rows, table_rows}

-- True if the list of rows contains a closing (the meter's last entry), so the meter was closed.
abbrev pub is_ended : List EntryRow → Bool
is_ended [] = false
is_ended (row ∷ rows) = if is_closing row.kind then true else is_ended rows

-- What is known about a voided (cancelled) reading. It showed a nonzero count that the counter can
-- show, is later than the last valid entry, and has at most one rollover. Its energy is unknown,
-- because entries that were valid at its time may have been voided since.
pub record WasReading (range : ℕ) (last : Last) (at raw rolls : ℕ) : Type 0 where
  pub accumulated : raw ≢ 0
  pub below : raw < range
  pub later : last.at < at
  pub once : rolls ≤ 1

-- States that a voided (cancelled) row may follow the last valid entry: it is a reading that the
-- rules for meter entries may have accepted at its time.
abbrev pub VoidedFits : (range : ℕ) → Last → EntryKind → Entry → Type 0
VoidedFits range last kind.Reading (entry.Step at raw rolls) = WasReading range last at raw rolls
VoidedFits range last _ _ = ⊥

-- States that the rules for meter entries allow a row of the kind `k` after the valid entries `es`.
-- If `stands` is true, the row is checked as a valid row, otherwise as a voided (cancelled) row.
abbrev pub MayCome : Installed → List Entry → (stands : Bool) → EntryKind → Entry → Type 0
MayCome meter es true k e = EntryFits meter es k e
MayCome meter es false k e = VoidedFits meter.range (last_after meter es) k e

-- True if the latest entry row of the list is valid (not voided), or the list is empty.
abbrev pub last_stands : List EntryRow → Bool
last_stands [] = true
last_stands (row ∷ rows) = row.stands

-- States that the rules for meter entries accept a row after the rows before it. The row has the
-- next sequence number, and the meter is not closed. If the row is a voided (cancelled) reading
-- directly after a valid row, it also satisfies the rules for valid readings.
pub record RowFits (meter : Installed) (rows : List EntryRow) (row : EntryRow) : Type 0 where
  pub place : row.place ≡ length rows + 2
  pub unended : is_ended rows ≡ false
  pub entry : MayCome meter (entries_in rows) row.stands row.kind row.entry
  pub voided_after : row.stands ≡ false → last_stands rows ≡ true
      → EntryFits meter (entries_in rows) row.kind row.entry

-- States that the rules for meter entries accept each entry row of the list after the rows before
-- it.
abbrev pub AllFit : Installed → List EntryRow → Type 0
AllFit meter [] = Unit {0}
AllFit meter (row ∷ rows) = RowFits meter rows row × AllFit meter rows

-- States that the table rows after a meter's opening row (first entry) encode a list of entry rows
-- that the rules for meter entries accept. The latest row comes first.
pub record AreReported (meter : Installed) (reported : List TableRow) : Type 0 where
  pub rows : List EntryRow
  pub fit : AllFit meter rows
  pub reported_is : reported ≡ later_rows meter rows

-- The values for a meter in the tables: the entry rows (the latest first), the interval rows, the
-- last valid (not voided) entry, the energy in mWh, and whether the meter was closed.
pub record Tables : Type 0 where
  pub entries : List TableRow
  pub intervals : List Share
  pub last : Last
  pub total : ℕ
  pub ended : Bool

-- The table rows of one meter whose entries are its opening (first) entry and then the given rows.
abbrev pub tables_of : Installed → List EntryRow → Tables
tables_of meter rows = record {
  entries = table_rows meter rows;
  intervals = rows_of_steps (steps_after meter (entries_in rows));
  last = last_after meter (entries_in rows);
  total = total_after meter (entries_in rows);
  ended = is_ended rows;
}

-- States that the tables of a meter are consistent: they are the tables of a list of entry rows
-- that the rules for meter entries accept.
pub record AreFine (meter : Installed) (tables : Tables) : Type 0 where
  pub rows : List EntryRow
  pub fit : AllFit meter rows
  pub are : tables ≡ tables_of meter rows
