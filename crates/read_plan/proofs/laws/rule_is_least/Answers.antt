use Rattle.read_plan.proofs.PlanLemmas.{fewest}
use Rattle.read_plan.proofs.laws.rule_is_least.Goals as goal

pub returns : goal.returns
returns c = fewest
