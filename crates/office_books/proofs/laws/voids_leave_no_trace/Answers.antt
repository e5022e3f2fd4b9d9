use Rattle.office_books.proofs.Journals.{voids_leave_no_trace as lemma}
use Rattle.office_books.proofs.laws.voids_leave_no_trace.Goals as goal

pub returns : goal.returns
returns c = lemma c.rows_are_kept.ensures c.voids_leave_no_trace.ensures
