use Rattle.std.proofs.Common.{◌≡◌, map, take}
use Rattle.read_plan.specs.PlannedReads.{read_run}
use Rattle.read_plan.proofs.planned_reads.PlannedRead.of_runs.Given as goal

abbrev pub invariant-loop-run : goal.invariant-loop-run
invariant-loop-run l = map read_run l.reads.items ≡ take l.run-index l.runs
