use Rattle.office_http.proofs.MessagesLemmas.Replying.{to_fault}
use Rattle.office_http.proofs.messages.laws.faults_are_replied_to.Goals as goal

pub returns : goal.returns
returns c = λ office. to_fault office c.args.router.now c.args.bytes.now c.args.head_state.now c.args.status c.requires.holds c.requires.fails
