use Rattle.office_books.proofs.Journals.{journals_fit as lemma}
use Rattle.office_books.proofs.laws.journals_fit.Goals as goal

pub returns : goal.returns
returns c = lemma
