use Rattle.office_store.proofs.LawsLemmas.Same.{tables_give_their_records as lemma}
use Rattle.office_store.proofs.laws.laws.tables_give_their_records.Goals as goal

pub returns : goal.returns
returns c = lemma c.rows_are_kept.ensures c.lists_are_planned_once.ensures
