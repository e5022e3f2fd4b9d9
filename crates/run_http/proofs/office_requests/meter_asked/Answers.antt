use Rattle.run_http.proofs.ReplyLemmas.Asked.{asks_all, holds_question, tests_question}
use Rattle.run_http.proofs.office_requests.meter_asked.Goals as goal

pub questions_are_replied_to-requires : goal.questions_are_replied_to-requires
questions_are_replied_to-requires c =
    let tests = rw c.in-Ok-Question.field-0-is at c.in-Ok-Question.ensures in
    record {
      holds =
          holds_question c.args.router.now c.args.request.now c.args.head_state.now c.args.head.now c.in-Ok-Question.found c.requires.is c.requires.looks
          tests;
      asks = tests_question c.args.router.now c.args.request.now c.args.head_state.now c.args.head.now c.in-Ok-Question.found c.requires.is tests;
    }

pub returns-in-Intervals : goal.returns-in-Intervals
returns-in-Intervals c =
    asks_all c.args.router.now c.args.request.now c.in-Ok-Question.found c.name_asked.result c.questions_are_replied_to.ensures c.in-Intervals.is
    c.name_asked.ensures
