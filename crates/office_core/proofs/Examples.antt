-- A worked example of the theorem that a meter's recorded energy is its last reading less its
-- first, corrected for rollovers, resets and changes of scale.
use Rattle.std.proofs.Common.{◌≡◌, pos, List, ℕ, [], ◌∷◌, refl}
use Rattle.energy_core.specs.Value.{unit_of}
use Rattle.energy_core.specs.declared.entries.Entry.{Entry}
use Rattle.energy_core.specs.declared.entries.Entry.TheVariants.{Step, Change}
use Rattle.meter_journal.specs.declared.lines.EntryKind.{EntryKind}
use Rattle.meter_journal.specs.declared.lines.EntryKind.TheVariants.{Reading, Manual, Rescale, Reset}
use Rattle.office_events.specs.declared.facts.Opening.{Opening}
use Rattle.office_events.specs.declared.facts.Fact.{Fact}
use Rattle.office_events.specs.declared.facts.Fact.TheVariants as fact
use Rattle.office_books.specs.Meters.{entries_of}
use Rattle.office_core.specs.Headline.{energy_booked, first_reading, last_reading, value, full_ranges, differences, AddsUp}

abbrev m1 : List ℕ
m1 = 109 ∷ 49 ∷ []

abbrev main : List ℕ
main = 109 ∷ 97 ∷ 105 ∷ 110 ∷ []

-- The meter of a worked example, installed at the counter value 4294967000, which is 296 counts
-- before a rollover.
abbrev meter : Opening
meter = record { meter = m1; register = main; ceiling = 100000; range = 4294967296; at = 1000; raw = 4294967000; sf = pos 0 }

abbrev entry : EntryKind → Entry → Fact
entry kind e = fact.Entry (record { meter = m1; kind = kind; entry = e })

-- The entries of an example meter: a reading of 200 after a rollover, and a change of scale from
-- 300 to 31 (tens of Wh). Then a manual reading of 35, and a reset from 40 to 5.
abbrev facts : List Fact
facts = entry Reset (Change 4600 40 5 (pos 1)) ∷ entry Manual (Step 3700 35 0)
    ∷ entry Rescale (Change 2800 300 31 (pos 1)) ∷ entry Reading (Step 1900 200 1) ∷ fact.Opening meter ∷ []

-- The recorded energy of an example meter in mWh: 496 Wh up to the reading, and 100 Wh to the
-- change of scale. Then 40 Wh to the manual reading, and 50 Wh to the reset.
booked : energy_booked facts meter ≡ 686000
unfolding unit_of
booked = refl

first : value (first_reading meter) ≡ pos 4294967000000
unfolding unit_of
first = refl

last : value (last_reading facts meter) ≡ pos 50000
unfolding unit_of
last = refl

-- The only rollover of an example meter in mWh: 4294967296 counts at 1 Wh each.
ranges : full_ranges 4294967296 (first_reading meter) (entries_of facts meter) ≡ 4294967296000
unfolding unit_of
ranges = refl

-- The differences (energy before minus energy after a new counter value is set) of an example
-- meter, in mWh: 300 Wh minus 310 Wh at the change of scale, and 400 Wh minus 50 Wh at the reset.
changes : differences (first_reading meter) (entries_of facts meter) ≡ pos 340000
unfolding unit_of
changes = refl

right : AddsUp facts meter
unfolding unit_of
right = refl
