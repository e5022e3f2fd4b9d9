-- The text lines of a meter's entries or of its voided (withdrawn) entries, and a last line with
-- the number of entries.
use Rattle.std.specs.Prelude.{ℕ, ℤ, Bool, true, false, List, ◌++◌, length, flat_map, codes, decimal}
use Rattle.std.specs.Fmt.{signed_decimal}
use Rattle.energy_core.specs.Account.{moment_of}
use Rattle.energy_core.specs.declared.entries.Entry.{Entry}
use Rattle.energy_core.specs.declared.entries.Entry.TheVariants.{Step, Change}
use Rattle.energy_core.specs.declared.entries.Last.{Last}
use Rattle.interval_core.specs.Lines.{end_line}
use Rattle.meter_journal.specs.declared.lines.EntryKind.{EntryKind}
use Rattle.meter_journal.specs.declared.lines.EntryKind.TheVariants.{Reading, Manual, Closing, Reset, Rescale}
use Rattle.meter_journal.specs.declared.lines.EntryRow.{EntryRow}
use Rattle.office_books.specs.declared.entries.MeterEntry.{MeterEntry}
use Rattle.office_books.specs.declared.entries.MeterEntry.TheVariants.{Opening, Later}

-- The word for the kind of a meter entry.
abbrev pub kind_word : EntryKind → List ℕ
kind_word Reading = codes " reading "
kind_word Manual = codes " manual "
kind_word Closing = codes " closing "
kind_word Reset = codes " reset "
kind_word Rescale = codes " rescale "

-- The numbers of a meter entry: its time, its counter, the rollovers since the previous entry, and
-- the value to which the counter was set. A number that this kind of entry does not have is 0.
abbrev pub numbers_text : Entry → List ℕ
numbers_text (Step at raw rolls) =
    decimal at ++ codes " " ++ decimal raw ++ codes " " ++ decimal rolls ++ codes " 0"
numbers_text (Change at before after sf) =
    decimal at ++ codes " " ++ decimal before ++ codes " 0 " ++ decimal after

-- The word that says whether a meter entry is valid (`stands`) or voided (`void`).
abbrev pub standing_word : Bool → List ℕ
standing_word true = codes " stands\n"
standing_word false = codes " void\n"

-- The line of a meter entry other than the opening entry: PLACE KIND MOMENT RAW ROLLS AFTER SF and
-- `stands` or `void`. PLACE is its sequence number, MOMENT its time and RAW its counter. ROLLS
-- counts the rollovers since the previous entry. AFTER is the value to which the counter was set,
-- and SF the scale factor after the entry.
abbrev pub later_line : EntryRow → (sf : ℤ) → List ℕ
later_line row sf =
    decimal row.place ++ kind_word row.kind ++ numbers_text row.entry ++ codes " "
    ++ signed_decimal sf ++ standing_word row.stands

-- The line of a meter's opening entry, which has the sequence number 1 and is never voided.
abbrev pub opening_line : Last → List ℕ
opening_line last =
    codes "1 opening " ++ decimal last.at ++ codes " " ++ decimal last.raw ++ codes " 0 0 "
    ++ signed_decimal last.sf ++ codes " stands\n"

-- The text line of an entry of a meter.
abbrev pub entry_line : MeterEntry → List ℕ
entry_line (Opening last) = opening_line last
entry_line (Later row sf) = later_line row sf

-- The lines of meter entries, and a last line with the number of entries.
abbrev pub entries_text : List MeterEntry → List ℕ
entries_text entries = flat_map entry_line entries ++ end_line (length entries)

-- The line of a voided (withdrawn) meter entry: PLACE KIND MOMENT. PLACE is its sequence number and
-- MOMENT its time.
abbrev pub void_row_line : EntryRow → List ℕ
void_row_line row =
    decimal row.place ++ kind_word row.kind ++ decimal (moment_of row.entry) ++ codes "\n"

-- The text line of a voided (withdrawn) entry of a meter.
abbrev pub void_line : MeterEntry → List ℕ
void_line (Opening last) = codes "1 opening " ++ decimal last.at ++ codes "\n"
void_line (Later row sf) = void_row_line row

-- The lines of voided (withdrawn) meter entries, and a last line with the number of entries.
abbrev pub voids_text : List MeterEntry → List ℕ
voids_text entries = flat_map void_line entries ++ end_line (length entries)
