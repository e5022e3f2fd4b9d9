use Rattle.read_plan.proofs.OnePlan.{planned_once}
use Rattle.read_plan.proofs.laws.lists_are_planned_once.Goals as goal

pub returns : goal.returns
returns c = planned_once
