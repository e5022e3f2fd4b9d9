use Rattle.office_books.proofs.Bounds.{facts_are_bounded as lemma}
use Rattle.office_books.proofs.laws.facts_are_bounded.Goals as goal

pub returns : goal.returns
returns c = lemma
