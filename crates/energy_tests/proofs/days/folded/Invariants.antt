use Rattle.std.proofs.Common.{◌≤◌}
use Rattle.std.specs.Option.{ForSome}
use Rattle.energy_tests.proofs.days.folded.Given as goal

abbrev pub invariant-loop-row : goal.invariant-loop-row
invariant-loop-row g l = ForSome l.fold.latest (λ start. start ≤ l.latest)
