use Rattle.office_core.proofs.Stops.{runs_left}
use Rattle.office_core.proofs.laws.runs_are_left_whole.Goals as goal

pub returns : goal.returns
returns c = runs_left
