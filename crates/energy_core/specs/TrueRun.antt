-- A true run: the list of a meter's true counts over time. The list begins with the latest count,
-- and does not contain the count at the meter's installation.
use Rattle.std.specs.Prelude.{◌≡◌, ◌≢◌, ℕ, ℤ, ◌-◌, ◌*◌, ◌%◌, ◌<◌, ◌≤◌, IsTrue, false, List, [], ◌∷◌, map}
use Rattle.energy_core.specs.declared.entries.Last.{Last}
use Rattle.energy_core.specs.declared.entries.Step.{Step}
use Rattle.energy_core.specs.declared.verdicts.Terms.{Terms}
use Rattle.energy_core.specs.declared.verdicts.Reading.{Reading}
use Rattle.energy_core.specs.declared.verdicts.Cause.{Cause}
use Rattle.energy_core.specs.declared.verdicts.Cause.TheVariants as cause
use Rattle.energy_core.specs.Value.{unit_of}
use Rattle.energy_core.specs.Account.{whole_energy, steps_of}
use Rattle.energy_core.specs.Verdict.{can_count, applies}
use Rattle.energy_core.specs.Readings.{entries_of_readings, AllAccepted}

-- A time, and the true count of the meter at that time, counted without rollovers.
pub record Item : Type 0 where
  pub at : ℕ
  pub count : ℕ

-- The counter's state that the meter shows at a true count: the count modulo the counter's range.
abbrev pub shown : (range : ℕ) → ℤ → Item → Last
shown range sf item = record { at = item.at; raw = item.count % range; sf = sf }

-- The reading of the meter at a true count: the count modulo the counter's range.
abbrev pub reported : (range : ℕ) → ℤ → Item → Reading
reported range sf item = record { at = item.at; raw = item.count % range; sf = sf }

-- The latest item (time and true count) in a list of a meter's true counts. For an empty list, it
-- is the item `first` at the meter's installation.
abbrev pub newest : Item → List Item → Item
newest first [] = first
newest first (b ∷ items) = b

-- True if the items can be the true counts of a meter: times rise, counts never fall, and counts
-- never rise faster than the ceiling (the greatest power) allows.
abbrev pub IsTrueRun : (ceiling : ℕ) → ℤ → Item → List Item → Type 0
IsTrueRun ceiling sf first [] = Unit {0}
IsTrueRun ceiling sf first (b ∷ items) =
    let a = newest first items in
    (a.at < b.at)
    × (a.count ≤ b.count)
    × IsTrue (can_count ceiling (unit_of sf) (b.at - a.at) (b.count - a.count))
    × IsTrueRun ceiling sf first items

-- The true energy between two items (times and true counts) of a meter, in mWh.
abbrev pub advance : ℤ → Item → Item → ℕ
advance sf a b = (b.count - a.count) * unit_of sf

-- True if no cause to reject a reading applies to any reading of the true counts. The causes
-- `TooFast` (above the ceiling) and `NotBelowRange` (count out of range) are not checked. The meter
-- is then polled often enough, no reading shows 0, and the total energy stays within its limit.
abbrev pub IsReadOftenEnough : (range ceiling : ℕ) → ℤ → Item → List Item → Type 0
IsReadOftenEnough range ceiling sf first [] = Unit {0}
IsReadOftenEnough range ceiling sf first (b ∷ items) =
    let a = newest first items in
    let terms : Terms = record { ceiling = ceiling; total = advance sf first a } in
    ((c : Cause) → c ≢ cause.TooFast → c ≢ cause.NotBelowRange
    → applies range terms (shown range sf a) (reported range sf b) c ≡ false)
    × IsReadOftenEnough range ceiling sf first items

-- The true energies and times between each two consecutive items of a meter's true counts. The
-- latest comes first.
abbrev pub true_steps : ℤ → Item → List Item → List Step
true_steps sf first [] = []
true_steps sf first (b ∷ items) =
    let a = newest first items in
    record { from = a.at; till = b.at; mwh = advance sf a b } ∷ true_steps sf first items

-- States that the readings of a meter's true counts are recorded truly. Every reading is accepted,
-- each recorded energy is the true energy between its times, and the total energy is the true
-- energy since installation.
pub record IsBookedTruly (range ceiling : ℕ) (sf : ℤ) (first : Item) (items : List Item) : Type 0
  where
    pub accepted : AllAccepted range ceiling (shown range sf first) (map (reported range sf) items)
    pub steps : steps_of range (shown range sf first)
        (entries_of_readings range ceiling (shown range sf first) (map (reported range sf) items))
        ≡ true_steps sf first items
    pub energy : whole_energy range (shown range sf first)
        (entries_of_readings range ceiling (shown range sf first) (map (reported range sf) items))
        ≡ advance sf first (newest first items)

-- Theorem: suppose that a meter shows its true counts and is polled often enough. Then its readings
-- are accepted, and the recorded energy is the true energy, however often the counter rolled over.
abbrev pub TruthIsBooked : Type 0
TruthIsBooked = (range ceiling : ℕ) (sf : ℤ) (first : Item) (items : List Item) → 0 < range
    → IsTrueRun ceiling sf first items → IsReadOftenEnough range ceiling sf first items
    → IsBookedTruly range ceiling sf first items
