use Rattle.std.proofs.Common.{List, ◌++◌, ap, refl, subst}
use Rattle.point_list.specs.declared.point.ListedPoint.{ListedPoint}
use Rattle.read_plan.specs.declared.planned_reads.PlannedRead.{PlannedRead}
use Rattle.sunspec_text.specs.Lists.PlanText.{PointsPrint, read_lines}
use Rattle.script_text.proofs.Got.{appends_both}
use Rattle.sunspec_text.proofs.lists.plan_printout.print_lines.Goals as goal

pub returns : goal.returns
returns g c = (
  read_lines 1 c.reads.result.now ++ c.in_ok-print_points.ensures.0,
  appends_both _ _ _ (read_lines 1 c.reads.result.now) c.in_ok-print_points.ensures.0 _ c.in_ok-print_reads.ensures c.in_ok-print_points.ensures.1 refl,
  record {
    points = c.in_ok-print_points.ensures.0;
    placed = subst (λ (list : List ListedPoint). PointsPrint list list c.args.plan.now.reads c.in_ok-print_points.ensures.0) c.points.ensures.points c.in_ok-print_points.ensures.2;
    lines = ap (λ (reads : List PlannedRead). read_lines 1 reads ++ c.in_ok-print_points.ensures.0) c.reads.ensures;
  },
)
