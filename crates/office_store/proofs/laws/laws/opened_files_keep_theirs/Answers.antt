use Rattle.office_store.proofs.LawsLemmas.Files.{opened_files_keep_theirs as lemma}
use Rattle.office_store.proofs.laws.laws.opened_files_keep_theirs.Goals as goal

pub returns : goal.returns
returns c = lemma
