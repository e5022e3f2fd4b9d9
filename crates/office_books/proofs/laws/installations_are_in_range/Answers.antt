use Rattle.office_books.proofs.InRange.{installations_are_in_range as lemma}
use Rattle.office_books.proofs.laws.installations_are_in_range.Goals as goal

pub returns : goal.returns
returns c = lemma c.journals_are_kept.ensures c.places_were_kept.ensures
