use Rattle.office_books.proofs.TrueBooks.{books_are_true as lemma}
use Rattle.office_books.proofs.lawfulness.books_are_true.Goals as goal

pub returns : goal.returns
returns c = lemma record {
  polls = c.polls_end_once.ensures.each;
  lawful = c.facts_are_lawful.ensures;
  distinct = c.names_are_distinct.ensures;
  kept = c.meters_are_kept.ensures;
  untraced = c.voids_leave_no_trace.ensures;
  truth = c.truth_is_recorded.ensures;
}
