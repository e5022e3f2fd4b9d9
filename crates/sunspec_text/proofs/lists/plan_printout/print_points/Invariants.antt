use Rattle.std.proofs.Common.{take, List, ℕ}
use Rattle.std.specs.Io.KnownBytes.{Appends}
use Rattle.sunspec_text.specs.Lists.PlanText.{PointsPrint}
use Rattle.sunspec_text.proofs.lists.plan_printout.print_points.Given as goal

abbrev pub invariant-loop-index : goal.invariant-loop-index
invariant-loop-index g l =
    (printed : List ℕ) × Appends (g.W.Write.contents l.fn.output) (g.W.Write.contents l.output) printed × PointsPrint l.points (take l.index l.points) l.plan.reads printed
