use Rattle.std.proofs.Common.{rules}
use Rattle.read_plan.proofs.ScaleLemmas.{scale-read}
use Rattle.read_plan.proofs.items.scale_runs.Goals as goal

pub loop-point-preserved-in_ok-insert : goal.loop-point-preserved-in_ok-insert
loop-point-preserved-in_ok-insert c =
    scale-read c.loop-point.yielded c.in-Some.point c.loop-point.runs c.insert.new.self c.as_bytes.result.now c.run_of_point.result (search rules) c.as_bytes.ensures.bytes c.run_of_point.ensures c.loop-point.invariant c.in_ok-insert.ensures.updates
