use Rattle.office_books.proofs.SessionLaws.{SessionLaws}
use Rattle.office_books.proofs.EndOnce.{end_once}
use Rattle.office_books.proofs.PollsOnce.{ends_once}
use Rattle.office_books.proofs.endings.polls_end_once.Goals as goal

pub returns : goal.returns
returns c =
    let laws : SessionLaws =
    record {
      once = c.each_once.ensures.outcomes;
      outcomes = c.one_event_more.ensures.outcomes;
      results = c.one_event_more.ensures.results;
    } in
    record {
      polls = end_once laws;
      each = λ history accepted. ends_once history (end_once laws history accepted);
    }
