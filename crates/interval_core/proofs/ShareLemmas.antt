-- Lemmas: the energy of a step (the energy between two readings of a meter) up to a time never
-- decreases as the time increases. It has two parts: whole mWh for each second, and a remainder
-- spread over all seconds.
use Rattle.std.proofs.Common.{◌≡◌, ℕ, ◌+◌, ◌-◌, ◌*◌, ◌/◌, ◌<◌, ◌≤◌, suc, sym, ap, ◌∙◌, ◌∷◌, map, arith}
use Rattle.std.specs.List.{range_with_len}
use Rattle.std.proofs.Math.Nat.{mul-add-div_right, div-mul-le_self, mul-le-mul_left}
use Rattle.std.proofs.lemmas.Nat.{le-div}
use Rattle.energy_core.specs.declared.entries.Step.{Step}
use Rattle.interval_core.specs.Share.{running_energy}

-- The energy of a step (between two readings) up to a time has two parts: whole mWh for each
-- second, and the remaining mWh, spread over all seconds.
pub running-split : (each rest seconds passed : ℕ) → 0 < seconds → each * passed + rest * passed / seconds ≡ (each * seconds + rest) * passed / seconds
running-split each rest seconds passed some =
    sym (mul-add-div_right some (each * passed) (rest * passed))
    ∙ ap (λ n. n / seconds) (omega arith)

pub div_mono : (a b n : ℕ) → 0 < n → a ≤ b → a / n ≤ b / n
div_mono a b n some le = le-div (a / n) b n some (omega (arith, div-mul-le_self a n))

-- The energy of a step (between two readings) up to a time never decreases as the time increases.
pub running_mono : (step : Step) (a b : ℕ) → step.from < step.till → a ≤ b → running_energy step a ≤ running_energy step b
running_mono step a b forward le =
    let order : a - step.from ≤ b - step.from = omega arith in
    div_mono (step.mwh * (a - step.from)) (step.mwh * (b - step.from)) (step.till - step.from) (omega arith) (mul-le-mul_left step.mwh order)

-- The list of a step's remaining shares begins with the share of the next quarter hour. A share is
-- the part of the step (the energy between two readings) in one quarter hour.
pub left-next : {X : Type 0} (f : ℕ → X) (next end : ℕ) → next < end → map f (range_with_len next (end - next)) ≡ f next ∷ map f (range_with_len (next + 1) (end - (next + 1)))
left-next f next end lt =
    let one_more : end - next ≡ suc (end - (next + 1)) = omega arith in
    rw one_more
