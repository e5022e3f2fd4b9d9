-- The total energy of an installed meter is the sum of the energies between its consecutive
-- entries.
use Rattle.std.proofs.Common.{◌≡◌, ℕ, ◌+◌, ◌-◌, ◌*◌, ◌≤◌, List, [], ◌∷◌, arith}
use Rattle.std.proofs.Math.Nat.{mul-le-mul_right}
use Rattle.std.specs.List.{sum_by}
use Rattle.std.proofs.lemmas.List.Sums.{sum_by-cons}
use Rattle.energy_core.specs.declared.entries.Last.{Last}
use Rattle.energy_core.specs.declared.entries.Step.{Step}
use Rattle.energy_core.specs.declared.entries.Entry.{Entry}
use Rattle.energy_core.specs.declared.entries.Entry.TheVariants as entry
use Rattle.energy_core.specs.Value.{unit_of}
use Rattle.energy_core.specs.Account.{last_of, energy_of, step_to, steps_of, whole_energy, NeverFalls}
use Rattle.energy_core.specs.Laws.{StepsAddUp, StepsAreTheWhole}

one_step : (r l u : ℕ) → l ≤ r → r * u - l * u + l * u ≡ r * u
one_step r l u h = omega (arith, mul-le-mul_right u h)

pub energy_in : Step → ℕ
energy_in s = s.mwh

-- If an entry is added, the sum of the energies between consecutive entries grows by the energy of
-- that entry.
pub sum-step : (range : ℕ) (opening : Last) (e : Entry) (es : List Entry)
    → sum_by (λ (s : Step). s.mwh) (steps_of range opening (e ∷ es))
    ≡ energy_of range (last_of opening es) e + sum_by (λ (s : Step). s.mwh) (steps_of range opening es)
sum-step range opening e es = sum_by-cons (λ (s : Step). s.mwh) (step_to range (last_of opening es) e) (steps_of range opening es)

-- If no entry's count is less than the count before it, two sums are equal. The first adds the
-- energies between entries, the value at the opening (first entry), and the values that resets set.
-- The second adds the last value, all full turns, and the values before resets.
pub balance : StepsAddUp
balance range opening [] h = omega arith
balance range opening (entry.Step at raw rolls ∷ es) h =
    omega (
      arith,
      sum-step range opening (entry.Step at raw rolls) es,
      balance range opening es h.1,
      one_step (raw + rolls * range) (last_of opening es).raw (unit_of (last_of opening es).sf) h.0,
    )
balance range opening (entry.Change at before new sf ∷ es) h =
    omega (
      arith,
      sum-step range opening (entry.Change at before new sf) es,
      balance range opening es h.1,
      one_step before (last_of opening es).raw (unit_of (last_of opening es).sf) h.0,
    )

pub sum-steps : StepsAreTheWhole
sum-steps range opening es h = omega (arith, balance range opening es h)

-- If an entry is added, the total energy of an installed meter grows by the energy of that entry.
pub whole-cons : (range : ℕ) (opening : Last) (e : Entry) (es : List Entry) → NeverFalls range opening (e ∷ es)
    → whole_energy range opening (e ∷ es) ≡ whole_energy range opening es + energy_of range (last_of opening es) e
whole-cons range opening e es h =
    omega (arith, sum-steps range opening (e ∷ es) h, sum-steps range opening es h.1, sum-step range opening e es)
