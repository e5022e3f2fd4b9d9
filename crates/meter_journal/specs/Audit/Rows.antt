-- The rows that the database table of entries has for a meter.
use Rattle.std.specs.Prelude.{ℕ, ℤ, false, not, List, [], ◌∷◌, ◌++◌}
use Rattle.energy_core.specs.declared.entries.Last.{Last}
use Rattle.energy_core.specs.declared.entries.Entry.{Entry}
use Rattle.energy_core.specs.declared.entries.Entry.TheVariants as entry
use Rattle.energy_core.specs.Account.{moment_of}
use Rattle.meter_journal.specs.declared.lines.Installed.{Installed}
use Rattle.meter_journal.specs.declared.lines.EntryKind.{EntryKind}
use Rattle.meter_journal.specs.declared.lines.EntryKind.TheVariants as kind
use Rattle.meter_journal.specs.declared.lines.EntryRow.{EntryRow}
use Rattle.meter_journal.specs.Books.{last_after}
use Rattle.meter_journal.specs.Journal.{entries_in}
use Rattle.meter_journal.specs.declared.audit.rows.RowKind.{RowKind}
use Rattle.meter_journal.specs.declared.audit.rows.RowKind.TheVariants as row_kind
use Rattle.meter_journal.specs.declared.audit.rows.TableRow.{TableRow}

-- The value of the kind column in a row of the table of entries, given the kind of the row's entry.
abbrev pub kind_as : EntryKind → RowKind
kind_as kind.Reading = row_kind.Reading
kind_as kind.Manual = row_kind.Manual
kind_as kind.Closing = row_kind.Closing
kind_as kind.Reset = row_kind.Reset
kind_as kind.Rescale = row_kind.Rescale

-- The count that the counter showed at an entry. For a reset or a rescale, it is the count before
-- the change.
abbrev pub raw_of : Entry → ℕ
raw_of (entry.Step at raw rolls) = raw
raw_of (entry.Change at before after sf) = before

-- The number of rollovers that an entry records, which is 0 for a reset or a rescale.
abbrev pub rolls_of : Entry → ℕ
rolls_of (entry.Step at raw rolls) = rolls
rolls_of (entry.Change at before after sf) = 0

-- The count to which a reset or a rescale set the counter, or 0 for other entries.
abbrev pub after_of : Entry → ℕ
after_of (entry.Step at raw rolls) = 0
after_of (entry.Change at before after sf) = after

-- The counter's scale factor after the valid (not voided) rows of a list.
abbrev pub scale_after : Installed → List EntryRow → ℤ
scale_after meter rows = (last_after meter (entries_in rows)).sf

-- The row of an entry in the database table of entries, where `sf` is the scale factor after the
-- entry.
abbrev pub table_row : (sf : ℤ) → EntryRow → TableRow
table_row sf row = record {
  place = row.place;
  kind = kind_as row.kind;
  moment = moment_of row.entry;
  raw = raw_of row.entry;
  rolls = rolls_of row.entry;
  after = after_of row.entry;
  sf = sf;
  is_voided = not row.stands;
}

-- The row of a meter's opening (its first entry) in the database table of entries.
abbrev pub opening_row : Last → TableRow
opening_row opening = record {
  place = 1;
  kind = row_kind.Opening;
  moment = opening.at;
  raw = opening.raw;
  rolls = 0;
  after = 0;
  sf = opening.sf;
  is_voided = false;
}

-- The rows of a list of meter entries in the database table of entries, each with the scale factor
-- after its entry. The latest row comes first.
abbrev pub later_rows : Installed → List EntryRow → List TableRow
later_rows meter [] = []
later_rows meter (row ∷ rows) =
    table_row (scale_after meter (row ∷ rows)) row ∷ later_rows meter rows

-- The rows of a meter in the database table of entries: the opening row, and the rows of all later
-- entries. The latest row comes first.
abbrev pub table_rows : Installed → List EntryRow → List TableRow
table_rows meter rows = later_rows meter rows ++ opening_row meter.opening ∷ []
