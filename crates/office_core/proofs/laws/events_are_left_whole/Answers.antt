use Rattle.office_core.proofs.Stops.{events_left}
use Rattle.office_core.proofs.laws.events_are_left_whole.Goals as goal

pub returns : goal.returns
returns c = events_left
