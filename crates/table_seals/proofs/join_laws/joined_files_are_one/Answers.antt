use Rattle.table_seals.proofs.JoinedFiles.{joined_files_are_one as lemma}
use Rattle.table_seals.proofs.join_laws.joined_files_are_one.Goals as goal

pub returns : goal.returns
returns c = lemma
