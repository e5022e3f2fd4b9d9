use Rattle.std.proofs.Common.{Ok, subst}
use Rattle.office_http.specs.declared.messages.ask.Ask.{Ask}
use Rattle.office_http.specs.Messages.Whole.Whole.{TestsRequest}
use Rattle.office_http.proofs.WantsLemmas.Nothing.{asks_a_question, in_a_question, where_a_test_fails}
use Rattle.office_http.proofs.wants.requests.wanted.Goals as goal

pub returns-in-Err-clause-wants : goal.returns-in-Err-clause-wants
returns-in-Err-clause-wants c = record {
  nothing = where_a_test_fails c.args.router.now c.args.bytes.now c.args.head_state.now c.in-Err.status c.requires c.in-Err.ensures;
  reply = c.faults_are_replied_to.ensures;
}

pub returns-in-Ok-Question-clause-wants : goal.returns-in-Ok-Question-clause-wants
returns-in-Ok-Question-clause-wants c =
    let table = c.args.router.now in
    let bytes = c.args.bytes.now in
    let tests = subst (λ (a : Ask). TestsRequest table bytes c.args.head_state.now (Ok a)) c.in-Ok-Question.field-0-is c.in-Ok-Question.ensures in
    record {
      asks = asks_a_question table bytes c.args.head_state.now c.in-Ok-Question.found c.requires tests;
      nothing = in_a_question table bytes c.args.head_state.now c.in-Ok-Question.found c.requires tests;
      reply = c.questions_are_replied_to.ensures;
    }
