use Rattle.office_program.proofs.round_end.end_unprinted.Goals as goal

pub returns-clause-ends : goal.returns-clause-ends
returns-clause-ends g c = λ printed moments later past stands clean. record {
  reply = c.feed-answer.result;
  taken = record {
    stands = c.feed-answer.ensures.stands past stands clean;
    answer = c.feed-answer.ensures.answers past stands clean;
    reported = c.feed-answer.ensures.reported past stands clean;
  };
  stops = λ why is. record { before = c.feed-answer.ensures.ends.stopped.0; after = c.feed-answer.ensures.ends.stops };
}
