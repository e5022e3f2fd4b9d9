use Rattle.office_books.proofs.Stepping.{holds_change_nothing as lemma}
use Rattle.office_books.proofs.steps.holds_change_nothing.Goals as goal

pub returns : goal.returns
returns c = lemma
