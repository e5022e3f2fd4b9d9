use Rattle.office_program.proofs.Holding.{Laws, holds_on}
use Rattle.office_program.proofs.round_laws.rounds_hold.Goals as goal

pub returns : goal.returns
returns c =
    let laws : Laws =
    record {
      session = record {
        once = c.each_once.ensures.outcomes;
        outcomes = c.one_event_more.ensures.outcomes;
        results = c.one_event_more.ensures.results;
      };
      once = c.polls_end_once.ensures.polls;
      fit = c.polls_fit.ensures;
      lawful = c.facts_are_lawful.ensures;
    } in
    holds_on laws
