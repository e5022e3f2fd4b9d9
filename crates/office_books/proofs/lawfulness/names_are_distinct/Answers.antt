use Rattle.office_books.proofs.Names.{names_are_distinct as lemma}
use Rattle.office_books.proofs.lawfulness.names_are_distinct.Goals as goal

pub returns : goal.returns
returns c = lemma
