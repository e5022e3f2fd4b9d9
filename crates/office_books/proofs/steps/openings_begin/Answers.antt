use Rattle.office_books.proofs.Stepping.{openings_begin as lemma}
use Rattle.office_books.proofs.steps.openings_begin.Goals as goal

pub returns : goal.returns
returns c = lemma
