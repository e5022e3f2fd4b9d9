-- Lists of a meter's entries by sequence number, and of the meters that were installed at an
-- accounting register (an energy counter).
use Rattle.std.specs.Prelude.{ℕ, ℤ, nat_le, List, [], ◌∷◌, map, reverse, take, Option, Some, None}
use Rattle.std.specs.List.{filter}
use Rattle.energy_core.specs.Account.{last_of}
use Rattle.meter_journal.specs.declared.lines.EntryRow.{EntryRow}
use Rattle.meter_journal.specs.Journal.{entries_in}
use Rattle.office_events.specs.declared.facts.Opening.{Opening}
use Rattle.office_events.specs.declared.facts.Fact.{Fact}
use Rattle.office_events.specs.declared.questions.Installation.{Installation}
use Rattle.office_books.specs.Facts.{opening_of}
use Rattle.office_books.specs.Intervals.{installations_at}
use Rattle.office_books.specs.Meters.{opened, rows_of, installation_of}
use Rattle.office_books.specs.declared.entries.MeterEntry.{MeterEntry}
use Rattle.office_books.specs.declared.entries.MeterEntry.TheVariants as entry

-- The sequence number of an entry: 1 for the opening (the first entry), then 2, 3 and so on.
abbrev pub place_of : MeterEntry → ℕ
place_of (entry.Opening last) = 1
place_of (entry.Later row sf) = row.place

-- The scale factor of a meter's counter after the given entry rows. Rows of voided (cancelled)
-- entries do not count.
abbrev pub scale_after : Opening → List EntryRow → ℤ
scale_after opening rows = (last_of (opened opening) (entries_in rows)).sf

-- The opening (first entry) of a meter and the given later entries, the latest first, each with the
-- counter's scale factor after the entry.
abbrev pub listed_rows : Opening → List EntryRow → List MeterEntry
listed_rows opening [] = entry.Opening (opened opening) ∷ []
listed_rows opening (row ∷ rows) =
    entry.Later row (scale_after opening (row ∷ rows)) ∷ listed_rows opening rows

-- All entries of a meter in order: the opening (first entry), then the other entries, including
-- voided (cancelled) ones. The list is empty if the opening is `None`.
abbrev pub entries_at : List Fact → Option Opening → List MeterEntry
entries_at facts None = []
entries_at facts (Some opening) = reverse (listed_rows opening (rows_of facts opening))

-- All entries of the meter with the given name, the opening (first entry) first. The list is empty
-- if no meter has the name.
abbrev pub all_entries : List Fact → (meter : List ℕ) → List MeterEntry
all_entries facts meter = entries_at facts (opening_of facts meter)

-- The first `most` entries of a list that have a sequence number of at least `from`. If fewer
-- entries have such a number, all of these.
abbrev pub first_from : (from most : ℕ) → List MeterEntry → List MeterEntry
first_from from most entries = take most (filter (λ e. nat_le from (place_of e)) entries)

-- The entries of the named meter with a sequence number of at least `from`, at most `most` entries.
abbrev pub entries_from : List Fact → (meter : List ℕ) → (from most : ℕ) → List MeterEntry
entries_from facts meter from most = first_from from most (all_entries facts meter)

-- The meters that were installed at the named accounting register (an energy counter), with their
-- state. They are in order of installation, and include closed meters.
abbrev pub installations_of : List Fact → (register : List ℕ) → List Installation
installations_of facts register =
    map (installation_of facts) (installations_at facts register)
