use Rattle.table_seals.proofs.JoinedTables.{joined_files_are_lawful as lemma}
use Rattle.table_seals.proofs.join_laws.joined_files_are_lawful.Goals as goal

pub returns : goal.returns
returns c = lemma c.files_are_one_history.ensures
