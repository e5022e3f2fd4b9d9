use Rattle.std.proofs.Common.{◌≡◌, inr, true, false, refl, rules}
use Rattle.interval_core.specs.Ranges.{is_backward}
use Rattle.run_http.specs.RegisterTargets as targets
use Rattle.run_http.proofs.register_targets.range_of.Goals as goal

pub returns-then-is_backward : goal.returns-then-is_backward
returns-then-is_backward c =
    let backward : is_backward (targets.from_till c.in-Some.first c.in-Some-day_of.last) ≡ true = search rules in
    inr
    (inr (
      targets.from_till c.in-Some.first c.in-Some-day_of.last,
      (c.in-Some.first, c.in-Some-day_of.last, c.in-Some.ensures, c.in-Some-day_of.ensures, refl, backward),
    ))

pub returns : goal.returns
returns c =
    let forward : is_backward (targets.from_till c.in-Some.first c.in-Some-day_of.last) ≡ false = search rules in
    (c.in-Some.first, c.in-Some-day_of.last, c.in-Some.ensures, c.in-Some-day_of.ensures, refl, forward)
