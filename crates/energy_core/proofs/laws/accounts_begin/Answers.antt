use Rattle.energy_core.proofs.Soundness.{accounts_begin as lemma}
use Rattle.energy_core.proofs.laws.accounts_begin.Goals as goal

pub returns : goal.returns
returns c = lemma
