use Rattle.office_books.proofs.LawfulFacts.{lawful}
use Rattle.office_books.proofs.lawfulness.facts_are_lawful.Goals as goal

pub returns : goal.returns
returns c = lawful c.one_event_more.ensures.settled c.polls_end_once.ensures.polls c.meters_are_kept.ensures
