-- The first promise of the project, about the outcomes of polls and the recorded energy of meters,
-- word for word:
--
--   "Over every list of device bytes, silences and office commands, each started poll has exactly
--   one recorded outcome or is pending, and each installed meter's booked energy over all intervals
--   is its last accepted reading less its first, plus one full range for each recorded rollover and
--   the recorded differences of its resets and rescalings."
--
-- For a history of accepted events, the definitions below state two promises. Each started poll has
-- one outcome or is pending. Each meter's recorded energy, in mWh, follows from its readings,
-- rollovers, resets and changes of scale. Voided (cancelled) readings are not counted.
use Rattle.std.specs.Prelude.{◌≡◌, ℕ, ◌+◌, ◌*◌, ℤ, pos, ◌+ℤ◌, ◌-ℤ◌, List, [], ◌∷◌, All, sum_by}
use Rattle.energy_core.specs.declared.entries.Last.{Last}
use Rattle.energy_core.specs.declared.entries.Entry.{Entry}
use Rattle.energy_core.specs.declared.entries.Entry.TheVariants as entry
use Rattle.energy_core.specs.Value.{unit_of, value_of}
use Rattle.energy_core.specs.Account.{last_of}
use Rattle.office_events.specs.declared.facts.Opening.{Opening}
use Rattle.office_events.specs.declared.facts.Fact.{Fact}
use Rattle.office_books.specs.Facts.{polls_in, openings_in}
use Rattle.office_books.specs.Meters.{opened, entries_of}
use Rattle.office_books.specs.Intervals.{rows_of_opening}
use Rattle.office_books.specs.History.{History, facts_of}
use Rattle.office_books.specs.Endings.{EndsOnce}

-- The meter's "booked energy over all intervals": the sum of its recorded energy over all quarter
-- hours, in mWh.
abbrev pub energy_booked : List Fact → Opening → ℕ
energy_booked facts meter = sum_by (λ row. row.mwh) (rows_of_opening facts meter)

-- The "first" accepted reading of a meter: the counter's value at the meter's installation.
abbrev pub first_reading : Opening → Last
first_reading meter = opened meter

-- The meter's "last accepted reading": the value that the counter showed, or was set to, at the
-- latest meter entry that is not voided (cancelled).
abbrev pub last_reading : List Fact → Opening → Last
last_reading facts meter = last_of (first_reading meter) (entries_of facts meter)

-- The energy value of a reading at its own scale factor, in mWh.
abbrev pub value : Last → ℤ
value reading = pos (value_of reading)

-- The "one full range for each recorded rollover" of a meter: the energy of the counter's full
-- range at the scale factor of each rollover, in mWh.
abbrev pub full_ranges : (range : ℕ) → (first : Last) → List Entry → ℕ
full_ranges range first [] = 0
full_ranges range first (entry.Step at raw rolls ∷ earlier) =
    rolls * range * unit_of (last_of first earlier).sf + full_ranges range first earlier
full_ranges range first (entry.Change at before after sf ∷ earlier) =
    full_ranges range first earlier

-- The "recorded differences of its resets and rescalings": the values that the counter showed minus
-- the values that it was set to, in mWh.
abbrev pub differences : (first : Last) → List Entry → ℤ
differences first [] = pos 0
differences first (entry.Step at raw rolls ∷ earlier) = differences first earlier
differences first (entry.Change at before after sf ∷ earlier) =
    pos (before * unit_of (last_of first earlier).sf) -ℤ pos (after * unit_of sf)
    +ℤ differences first earlier

-- True if the project's promise about recorded energy holds for one meter. The meter's recorded
-- energy is its last reading minus its first, plus the full ranges of rollovers and the differences
-- at resets and rescalings.
abbrev pub AddsUp : List Fact → Opening → Type 0
AddsUp facts meter =
    pos (energy_booked facts meter)
    ≡ value (last_reading facts meter) -ℤ value (first_reading meter)
    +ℤ pos (full_ranges meter.range (first_reading meter) (entries_of facts meter))
    +ℤ differences (first_reading meter) (entries_of facts meter)

-- True if the complete promise of the project holds. Each started poll has exactly one recorded
-- outcome or is pending. The recorded energy of each installed meter is its last reading less its
-- first, corrected for rollovers, resets and rescalings.
pub record HeadlineHolds (history : History) : Type 0 where
  pub polls : All (EndsOnce history) (polls_in (facts_of history))
  pub meters : All (AddsUp (facts_of history)) (openings_in (facts_of history))
