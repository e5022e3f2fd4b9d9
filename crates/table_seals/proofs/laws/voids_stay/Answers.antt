use Rattle.table_seals.proofs.Staying.{voids_stay as lemma}
use Rattle.table_seals.proofs.laws.voids_stay.Goals as goal

pub returns : goal.returns
returns c = lemma
