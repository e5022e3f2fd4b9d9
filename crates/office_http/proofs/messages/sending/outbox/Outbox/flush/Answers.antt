use Rattle.std.proofs.Common.{refl}
use Rattle.office_http.proofs.MessagesLemmas.SendingLemmas.Giving.{Sends-flushed}
use Rattle.office_http.proofs.messages.sending.outbox.Outbox.flush.Goals as goal

pub returns-clause-sends : goal.returns-clause-sends
returns-clause-sends g c = λ base all so_far.
    Sends-flushed c.give_all-whole.result base _ _ _ _ _ _ all c.if-self.false c.is_err-self.ensures.value refl so_far c.give_all-whole.ensures.given
