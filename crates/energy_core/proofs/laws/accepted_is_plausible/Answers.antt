use Rattle.energy_core.proofs.Acceptance.{accepted_is_plausible as lemma}
use Rattle.energy_core.proofs.laws.accepted_is_plausible.Goals as goal

pub returns : goal.returns
returns c = lemma
