use Rattle.energy_core.proofs.Soundness.{accounts_are_sound as lemma}
use Rattle.energy_core.proofs.laws.accounts_are_sound.Goals as goal

pub returns : goal.returns
returns c = lemma
