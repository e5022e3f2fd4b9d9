-- The shares of a step (the energy between two readings) in all quarter hours add up to the step's
-- energy.
use Rattle.std.proofs.Common.{◌≡◌, ℕ, zero, suc, ◌+◌, ◌-◌, ◌*◌, ◌/◌, ◌<◌, ◌≤◌, min, max, ap, map, arith}
use Rattle.std.specs.List.{range_with_len}
use Rattle.std.proofs.Math.Nat.{mul-div_cancel, mul-zero, zero-div}
use Rattle.std.proofs.lemmas.List.Sums.{sum_by-cons}
use Rattle.energy_core.specs.declared.entries.Step.{Step}
use Rattle.interval_core.specs.declared.shares.Share.{Share}
use Rattle.interval_core.specs.Share.{running_energy, share_of, shares_of}
use Rattle.energy_core.specs.Account.{intervals_touched}
use Rattle.interval_core.specs.Account.{energy_of}
use Rattle.interval_core.proofs.ShareLemmas.{running_mono}

pub running-from : (step : Step) → running_energy step step.from ≡ 0
running-from step =
    let none : step.from - step.from ≡ 0 = omega arith in
    rw (none, mul-zero step.mwh) (zero-div (step.till - step.from))

pub running-till : (step : Step) → step.from < step.till → running_energy step step.till ≡ step.mwh
running-till step forward = mul-div_cancel step.mwh (omega arith)

-- The shares of a step (the energy between two readings) from quarter hour `next` on add up to the
-- step's energy after that quarter hour's start.
pub energy-left : (step : Step) (count next : ℕ) → step.from < step.till → step.from / 900 ≤ next → next + count ≡ (step.till - 1) / 900 + 1
    → energy_of (map (share_of step) (range_with_len next count)) ≡ running_energy step step.till - running_energy step (min (max (next * 900) step.from) step.till)
energy-left step zero next forward begun end =
    let done : min (max (next * 900) step.from) step.till ≡ step.till = omega arith in
    let same = ap (running_energy step) done in
    omega (arith, same)
energy-left step (suc count) next forward begun end =
    let later = energy-left step count (next + 1) forward (omega arith) (omega arith) in
    let here : min (max (next * 900) step.from) step.till ≡ max (next * 900) step.from = omega arith in
    let there : min (max ((next + 1) * 900) step.from) step.till ≡ min (next * 900 + 900) step.till = omega arith in
    let up = running_mono step (max (next * 900) step.from) (min (next * 900 + 900) step.till) forward (omega arith) in
    let up_more = running_mono step (min (next * 900 + 900) step.till) step.till forward (omega arith) in
    let first = sum_by-cons (λ (row : Share). row.mwh) (share_of step next) (map (share_of step) (range_with_len (next + 1) count)) in
    omega (arith, first, later, ap (running_energy step) here, ap (running_energy step) there, up, up_more)

pub energy-shares_of : (step : Step) → step.from < step.till → energy_of (shares_of step) ≡ step.mwh
energy-shares_of step forward =
    let all = energy-left step (intervals_touched step.from step.till) (step.from / 900) forward (omega arith) (omega arith) in
    let begin : min (max (step.from / 900 * 900) step.from) step.till ≡ step.from = omega arith in
    omega (arith, all, ap (running_energy step) begin, running-from step, running-till step forward)
