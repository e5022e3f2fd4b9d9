-- Examples of queries by time span, for an accounting register (an energy counter) at which two
-- meters were installed, one after the other.
use Rattle.std.proofs.Common.{◌≡◌, ℕ, pos, List, [], ◌∷◌, true, false, refl}
use Rattle.energy_core.specs.declared.entries.Last.{Last}
use Rattle.energy_core.specs.declared.entries.Entry.TheVariants as entry
use Rattle.energy_core.specs.Value.{unit_of}
use Rattle.interval_core.specs.declared.shares.Share.{Share}
use Rattle.meter_journal.specs.declared.lines.EntryKind.TheVariants as kind
use Rattle.meter_journal.specs.declared.lines.EntryRow.{EntryRow}
use Rattle.office_events.specs.declared.facts.Opening.{Opening}
use Rattle.office_events.specs.declared.facts.Fact.{Fact}
use Rattle.office_events.specs.declared.facts.Fact.TheVariants as fact
use Rattle.office_books.specs.Intervals.{rows_of_meter, rows_of_register}
use Rattle.office_books.specs.declared.entries.MeterEntry.TheVariants as listed
use Rattle.office_books.specs.declared.spans.Span.TheVariants.{All, Between}
use Rattle.office_books.specs.Entries.{entries_from, installations_of}
use Rattle.office_books.specs.Spans.{rows_within}

abbrev main : List ℕ
main = 109 ∷ 97 ∷ 105 ∷ 110 ∷ []

abbrev m1 : List ℕ
m1 = 109 ∷ 49 ∷ []

abbrev m2 : List ℕ
m2 = 109 ∷ 50 ∷ []

abbrev first : Opening
first = record { meter = m1; register = main; ceiling = 100000; range = 4294967296; at = 1000; raw = 5000; sf = pos 0 }

abbrev second : Opening
second = record { meter = m2; register = main; ceiling = 100000; range = 4294967296; at = 2000; raw = 7; sf = pos 1 }

-- The example records: a reading, a manual entry that was voided (cancelled), the closing of the
-- meter, and the installation of the next meter.
abbrev facts : List Fact
facts =
    fact.Opening second
    ∷ fact.Entry (record { meter = m1; kind = kind.Closing; entry = entry.Step 2000 5300 0 })
    ∷ fact.Void (record { meter = m1; place = 3; at = 1950 })
    ∷ fact.Entry (record { meter = m1; kind = kind.Manual; entry = entry.Step 1940 5250 0 })
    ∷ fact.Entry (record { meter = m1; kind = kind.Reading; entry = entry.Step 1900 5200 0 })
    ∷ fact.Opening first
    ∷ []

abbrev in_first : Share
in_first = record { start = 900; mwh = 177777 }

abbrev in_second : Share
in_second = record { start = 1800; mwh = 122223 }

all_rows : rows_within All (rows_of_meter facts m1) ≡ in_first ∷ in_second ∷ []
unfolding unit_of
all_rows = refl

-- A time span includes the quarter hour that starts at the span's start, and excludes the quarter
-- hour that starts at the span's end.
from_the_start : rows_within (Between 900 1800) (rows_of_meter facts m1) ≡ in_first ∷ []
unfolding unit_of
from_the_start = refl

past_the_start : rows_within (Between 901 1801) (rows_of_meter facts m1) ≡ in_second ∷ []
unfolding unit_of
past_the_start = refl

nothing_between : rows_within (Between 1800 1800) (rows_of_meter facts m1) ≡ []
unfolding unit_of
nothing_between = refl

of_the_register : rows_within (Between 1800 9000) (rows_of_register facts main) ≡ in_second ∷ []
unfolding unit_of
of_the_register = refl

-- The expected entries of an example meter, and examples that list the entries by sequence number.
-- A list includes the voided (cancelled) entry, marked as void.
abbrev opened : Last
opened = record { at = 1000; raw = 5000; sf = pos 0 }

abbrev reading : EntryRow
reading = record { place = 2; kind = kind.Reading; entry = entry.Step 1900 5200 0; stands = true }

abbrev by_hand : EntryRow
by_hand = record { place = 3; kind = kind.Manual; entry = entry.Step 1940 5250 0; stands = false }

abbrev closing : EntryRow
closing = record { place = 4; kind = kind.Closing; entry = entry.Step 2000 5300 0; stands = true }

all_there : entries_from facts m1 0 9 ≡ listed.Opening opened ∷ listed.Later reading (pos 0) ∷ listed.Later by_hand (pos 0) ∷ listed.Later closing (pos 0) ∷ []
all_there = refl

two_of_them : entries_from facts m1 1 2 ≡ listed.Opening opened ∷ listed.Later reading (pos 0) ∷ []
two_of_them = refl

from_the_third : entries_from facts m1 3 9 ≡ listed.Later by_hand (pos 0) ∷ listed.Later closing (pos 0) ∷ []
from_the_third = refl

past_the_last : entries_from facts m1 5 9 ≡ []
past_the_last = refl

none_of_them : entries_from facts m1 1 0 ≡ []
none_of_them = refl

no_meter : entries_from facts main 1 9 ≡ []
no_meter = refl

-- The list of an accounting register's meters begins with the closed
-- meter, which was installed first.
both_meters : installations_of facts main
    ≡ record { opening = first; last = record { at = 2000; raw = 5300; sf = pos 0 }; total = 300000; ended = true }
    ∷ record { opening = second; last = record { at = 2000; raw = 7; sf = pos 1 }; total = 0; ended = false }
    ∷ []
unfolding unit_of
both_meters = refl

no_register : installations_of facts m1 ≡ []
no_register = refl
