use Rattle.table_seals.proofs.JoinedTables.{kept_meters_are_reported as lemma}
use Rattle.table_seals.proofs.join_laws.kept_meters_are_reported.Goals as goal

pub returns : goal.returns
returns c = lemma
