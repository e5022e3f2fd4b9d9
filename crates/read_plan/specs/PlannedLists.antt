-- Defines point lists with the reads that poll their points.
use Rattle.std.specs.Prelude.{◌≡◌, List}
use Rattle.point_list.specs.declared.point.ListedPoint.{ListedPoint}
use Rattle.point_list.specs.Points.{IsPointList}
use Rattle.read_plan.specs.declared.planned_reads.PlannedRead.{PlannedRead}
use Rattle.read_plan.specs.Items.{items_of}
use Rattle.read_plan.specs.PlannedReads.{read_runs}
use Rattle.read_plan.specs.Plans.{FollowsRule}

-- A list of points, and the Modbus reads that poll them (the list's plan).
pub record Planned : Type 0 where
  pub points : List ListedPoint
  pub reads : List PlannedRead

-- True if the points form a valid point list, and the reads are the plan with the fewest reads for
-- these points.
pub record IsPlanned (list : Planned) : Type 0 where
  pub points : IsPointList list.points
  pub rule : FollowsRule (items_of list.points) (read_runs list.reads)

-- States that at most one plan for each list of points follows the planning rule. By the rule, each
-- read begins at the first uncovered register and covers as much as possible.
abbrev pub ListsArePlannedOnce : Type 0
ListsArePlannedOnce = (a b : Planned) → IsPlanned a → IsPlanned b → a.points ≡ b.points → a ≡ b
