use Rattle.office_books.proofs.FittingPolls.{polls_fit as lemma}
use Rattle.office_books.proofs.poll_order.polls_fit.Goals as goal

pub returns : goal.returns
returns c = lemma c.one_event_more.ensures.settled c.polls_end_once.ensures.polls
