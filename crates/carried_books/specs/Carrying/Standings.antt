-- The state of a meter's counter at its last valid (not voided) entry, up to a timestamp if one is
-- given. A new database file continues the meter from this state.
use Rattle.std.specs.Prelude.{ℕ, ℤ, nat_le, Bool, true, ◌&&◌, List, reverse, Option, Some, None}
use Rattle.std.specs.Option.{option_map}
use Rattle.std.specs.List.{find}
use Rattle.energy_core.specs.declared.entries.Entry.{Entry}
use Rattle.energy_core.specs.declared.entries.Entry.TheVariants as entry
use Rattle.energy_core.specs.declared.entries.Last.{Last}
use Rattle.office_events.specs.declared.facts.Fact.{Fact}
use Rattle.office_books.specs.declared.entries.MeterEntry.{MeterEntry}
use Rattle.office_books.specs.declared.entries.MeterEntry.TheVariants as listed
use Rattle.office_books.specs.Entries.{all_entries}

-- True if the timestamp `at` is not later than `until`, or `until` is `None`.
abbrev pub is_until : (until : Option ℕ) → (at : ℕ) → Bool
is_until (Some until) at = nat_le at until
is_until None at = true

-- The state of a meter's counter after an entry that was recorded with the scale factor `sf`.
abbrev pub set_by : Entry → (sf : ℤ) → Last
set_by (entry.Step at raw rolls) sf = record { at = at; raw = raw; sf = sf }
set_by (entry.Change at before after scale) sf = record { at = at; raw = after; sf = sf }

-- The state of a meter's counter after an entry of the meter, or after its opening (first entry).
abbrev pub shown_by : MeterEntry → Last
shown_by (listed.Opening last) = last
shown_by (listed.Later row sf) = set_by row.entry sf

-- True if a meter entry is valid: the entry is the meter's opening (first entry), or no record
-- cancels the entry.
abbrev pub stands : MeterEntry → Bool
stands (listed.Opening last) = true
stands (listed.Later row sf) = row.stands

-- True if a meter entry is valid (not cancelled) and not later than `until`.
abbrev pub counts : (until : Option ℕ) → MeterEntry → Bool
counts until e = stands e && is_until until (shown_by e).at

-- For a list of a meter's entries, in the order of recording: the counter's state at the last entry
-- that is valid (not cancelled) and not later than `until`. `None` if the list has no such entry.
abbrev pub last_among : (until : Option ℕ) → List MeterEntry → Option Last
last_among until entries = option_map shown_by (find (counts until) (reverse entries))

-- The state of a meter's counter at its last valid (not cancelled) entry up to `until`. `None` if
-- the meter was installed later, or no meter has the name.
abbrev pub last_until : List Fact → (until : Option ℕ) → (meter : List ℕ) → Option Last
last_until facts until meter = last_among until (all_entries facts meter)
