use Rattle.energy_core.proofs.Acceptance.{accepted_is_entered as lemma}
use Rattle.energy_core.proofs.laws.accepted_is_entered.Goals as goal

pub returns : goal.returns
returns c = lemma
