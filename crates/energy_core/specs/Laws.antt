-- Theorems about recorded energy and about verdicts on readings, for every list of entries and of
-- readings.
use Rattle.std.specs.Prelude.{◌≡◌, ℕ, ◌+◌, ◌*◌, ◌<◌, ◌≤◌, ◌↔◌, List, [], ◌∷◌, Ok, All, sum_by, nat_lt, if◌then◌else◌}
use Rattle.energy_core.specs.declared.limits.TheConstants.{MAX_INTERVALS, MAX_TOTAL}
use Rattle.energy_core.specs.declared.entries.Last.{Last}
use Rattle.energy_core.specs.declared.entries.Step.{Step}
use Rattle.energy_core.specs.declared.entries.Entry.{Entry}
use Rattle.energy_core.specs.declared.entries.Entry.TheVariants as entry
use Rattle.energy_core.specs.declared.verdicts.Terms.{Terms}
use Rattle.energy_core.specs.declared.verdicts.Reading.{Reading}
use Rattle.energy_core.specs.declared.verdicts.Verdict.TheVariants.{Accepted}
use Rattle.energy_core.specs.Account.{intervals_touched, last_of, steps_of, recorded, set_anew, whole_energy, NeverFalls, IsScale, IsAccount}
use Rattle.energy_core.specs.Value.{unit_of, value_of}
use Rattle.energy_core.specs.Verdict.{distance, verdict_of, IsPlausible}
use Rattle.energy_core.specs.Admission.{entered, IsBooked}
use Rattle.energy_core.specs.Readings.{entries_of_readings}

-- Theorem: if no entry's count is less than the count before it, two sums are equal. The first adds
-- the energies between consecutive entries, the value at the opening (first entry), and the values
-- that resets and rescales set. The second adds the last value, all full turns, and the values
-- before resets and rescales.
abbrev pub StepsAddUp : Type 0
StepsAddUp = (range : ℕ) (opening : Last) (es : List Entry) → NeverFalls range opening es
    → sum_by (λ (s : Step). s.mwh) (steps_of range opening es) + value_of opening + set_anew es
    ≡ value_of (last_of opening es) + recorded range opening es

-- Theorem: if no entry's count is less than the count before it, the energies between a meter's
-- consecutive entries add up to its total energy.
abbrev pub StepsAreTheWhole : Type 0
StepsAreTheWhole = (range : ℕ) (opening : Last) (es : List Entry) → NeverFalls range opening es
    → sum_by (λ (s : Step). s.mwh) (steps_of range opening es) ≡ whole_energy range opening es

-- Theorem: `entered` (the check of entries) records an entry if and only if it may follow the last
-- entry (`Follows`: later, no lower count, within the limits), and the total energy stays within
-- its limit.
abbrev pub EnteredIsBooked : Type 0
EnteredIsBooked = (range total : ℕ) (last : Last) (e : Entry) (next : Last) (step : Step)
    → (entered range total last e ≡ Ok (next, step)) ↔ IsBooked range total last e next step

-- Theorem: a reading is accepted if and only if no cause to reject it applies. The counter rolled
-- over once if the reading is less than the last entry's count, otherwise not. The reading's energy
-- follows from the number of counts that the counter advanced.
abbrev pub AcceptedIsPlausible : Type 0
AcceptedIsPlausible = (range : ℕ) (terms : Terms) (last : Last) (reading : Reading) (rolls step : ℕ)
    → (verdict_of range terms last reading ≡ Accepted rolls step)
    ↔ (IsPlausible range terms last reading
    × (rolls ≡ (if nat_lt reading.raw last.raw then 1 else 0))
    × (step ≡ distance range last.raw reading.raw * unit_of last.sf))

-- Theorem: `entered`, the check of entries, records each accepted reading, with the energy that the
-- verdict states.
abbrev pub AcceptedIsEntered : Type 0
AcceptedIsEntered = (range : ℕ) (terms : Terms) (last : Last) (reading : Reading) (rolls step : ℕ)
    → last.raw < range
    → verdict_of range terms last reading ≡ Accepted rolls step
    → entered range terms.total last (entry.Step reading.at reading.raw rolls)
    ≡ Ok (
      record { at = reading.at; raw = reading.raw; sf = reading.sf },
      record { from = last.at; till = reading.at; mwh = step },
    )

-- Theorem: a meter that was just installed has recorded 0 mWh.
abbrev pub AccountsBegin : Type 0
AccountsBegin = (range : ℕ) (opening : Last) → IsAccount range opening [] opening 0

-- Theorem: suppose that the entries of an installed meter obey the rules (`IsAccount`: rising
-- times, no falling counts, limits). Then the entries with one more recorded entry obey these rules
-- too.
abbrev pub AccountsGoOn : Type 0
AccountsGoOn = (range : ℕ) (opening : Last) (es : List Entry) (last : Last) (total : ℕ)
    (e : Entry) (next : Last) (step : Step)
    → IsAccount range opening es last total → IsBooked range total last e next step
    → IsAccount range opening (e ∷ es) next (total + step.mwh)

-- States that the length and the energy of a step (the time between two entries) are within the
-- limits for division by quarter hour.
pub record IsShareable (step : Step) : Type 0 where
  pub later : step.from < step.till
  pub span : intervals_touched step.from step.till ≤ MAX_INTERVALS
  pub within : step.mwh ≤ MAX_TOTAL

-- States that the recorded state of an installed meter is sound. The counter's count is below its
-- range, and its scale factor is from -3 to 3. No entry's count is less than the count before it.
--
-- In a sound state of an installed meter (`IsSound`), the total energy is the sum of the energies
-- between consecutive entries. Each of these energies can be divided among quarter-hour intervals.
pub record IsSound (range : ℕ) (opening : Last) (es : List Entry) (last : Last)
    (total : ℕ) : Type 0 where
  pub raw : last.raw < range
  pub scale : IsScale last.sf
  pub never_falls : NeverFalls range opening es
  pub sum : total ≡ sum_by (λ (s : Step). s.mwh) (steps_of range opening es)
  pub steps : All IsShareable (steps_of range opening es)

-- Theorem: if a meter's entries obey the rules (`IsAccount`), the meter's state is sound
-- (`IsSound`): within its limits, and with the sum of the entries' energies as its total. The
-- opening (the first entry) must have a count below the counter's range and a scale factor from -3
-- to 3.
abbrev pub AccountsAreSound : Type 0
AccountsAreSound = (range : ℕ) (opening : Last) (es : List Entry) (last : Last) (total : ℕ)
    → opening.raw < range → IsScale opening.sf
    → IsAccount range opening es last total → IsSound range opening es last total

-- Theorem: an accepted reading becomes an entry of the meter. After any list of readings, the
-- meter's entries obey the rules (`IsAccount`: rising times, no falling counts, limits). The
-- meter's first count must be below the counter's range.
abbrev pub ReadingsKeepAccounts : Type 0
ReadingsKeepAccounts = (range ceiling : ℕ) (opening : Last) (rs : List Reading)
    → opening.raw < range
    → let es = entries_of_readings range ceiling opening rs in
    IsAccount range opening es (last_of opening es) (whole_energy range opening es)
