use Rattle.energy_core.proofs.Truth.{truth_is_booked as lemma}
use Rattle.energy_core.proofs.laws.truth_is_booked.Goals as goal

pub returns : goal.returns
returns c = lemma
