use Rattle.office_store.proofs.LawsLemmas.Files.{newest_files_have_theirs as lemma}
use Rattle.office_store.proofs.laws.laws.newest_files_have_theirs.Goals as goal

pub returns : goal.returns
returns c = lemma c.opened_files_keep_theirs.ensures
