use Rattle.office_store.proofs.LawsLemmas.Databases.{databases_give_their_records as lemma}
use Rattle.office_store.proofs.laws.laws.databases_give_their_records.Goals as goal

pub returns : goal.returns
returns c = lemma c.tables_give_their_records.ensures
