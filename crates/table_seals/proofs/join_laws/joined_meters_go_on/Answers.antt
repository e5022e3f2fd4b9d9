use Rattle.table_seals.proofs.Joined.{joined_meters_go_on as lemma}
use Rattle.table_seals.proofs.join_laws.joined_meters_go_on.Goals as goal

pub returns : goal.returns
returns c = lemma
