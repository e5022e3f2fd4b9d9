use Rattle.office_store.proofs.LawsLemmas.Found.{left_facts_are_found as lemma}
use Rattle.office_store.proofs.laws.laws.left_facts_are_found.Goals as goal

pub returns : goal.returns
returns c = lemma
