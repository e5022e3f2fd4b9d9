use Rattle.energy_core.proofs.Soundness.{readings_keep_accounts as lemma}
use Rattle.energy_core.proofs.laws.readings_keep_accounts.Goals as goal

pub returns : goal.returns
returns c = lemma
