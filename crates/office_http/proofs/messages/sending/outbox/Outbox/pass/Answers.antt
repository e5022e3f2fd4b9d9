use Rattle.std.proofs.Common.{◌++◌, ap}
use Rattle.office_http.proofs.MessagesLemmas.SendingLemmas.Giving.{Sends-given}
use Rattle.office_http.proofs.messages.sending.outbox.Outbox.pass.Goals as goal

pub returns-clause-sends : goal.returns-clause-sends
returns-clause-sends g c = λ base all so_far.
    Sends-given c.give_all.result base _ _ _ _ _ _ all c.args.bytes.now c.requires.works c.is_err-self.ensures.value c.requires.empty so_far _ (ap (λ t. t ++ c.args.bytes.now) c.requires.empty) c.give_all.ensures.given
