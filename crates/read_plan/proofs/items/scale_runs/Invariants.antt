use Rattle.std.proofs.Common.{map, reverse}
use Rattle.read_plan.specs.Items.{AreScaleRuns}
use Rattle.read_plan.proofs.items.scale_runs.Given as goal

abbrev pub invariant-loop-point : goal.invariant-loop-point
invariant-loop-point l = AreScaleRuns (reverse (map (λ p. p.now) l.yielded)) l.runs
