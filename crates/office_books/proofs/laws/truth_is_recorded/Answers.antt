use Rattle.office_books.proofs.Journals.{truth_is_recorded as lemma}
use Rattle.office_books.proofs.laws.truth_is_recorded.Goals as goal

pub returns : goal.returns
returns c = lemma c.truth_is_kept.ensures
