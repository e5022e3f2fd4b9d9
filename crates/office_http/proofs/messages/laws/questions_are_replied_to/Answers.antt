use Rattle.office_http.proofs.MessagesLemmas.Replying.{to_question}
use Rattle.office_http.proofs.messages.laws.questions_are_replied_to.Goals as goal

pub returns : goal.returns
returns c = λ office. to_question office c.args.router.now c.args.bytes.now c.args.head_state.now c.args.found.now c.requires.holds c.requires.asks
