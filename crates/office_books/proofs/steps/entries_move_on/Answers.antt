use Rattle.office_books.proofs.Stepping.{entries_move_on as lemma}
use Rattle.office_books.proofs.steps.entries_move_on.Goals as goal

pub returns : goal.returns
returns c = lemma c.entries_go_on.ensures
