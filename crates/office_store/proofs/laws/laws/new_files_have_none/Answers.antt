use Rattle.office_store.proofs.LawsLemmas.Files.{new_files_have_none as lemma}
use Rattle.office_store.proofs.laws.laws.new_files_have_none.Goals as goal

pub returns : goal.returns
returns c = lemma
