use Rattle.office_http.proofs.MessagesLemmas.Replying.{to_command}
use Rattle.office_http.proofs.messages.laws.commands_are_replied_to.Goals as goal

pub returns : goal.returns
returns c = λ office. to_command office c.args.router.now c.args.bytes.now c.args.head.now c.args.found.now c.args.posted.now c.args.given.now c.requires.holds c.requires.asks c.requires.gives c.requires.memory
