use Rattle.office_http.proofs.MessagesLemmas.SendingLemmas.Giving.{Sends-buffered, Sends-lost}
use Rattle.office_http.proofs.messages.sending.outbox.Outbox.write_bytes.Goals as goal

pub returns-then-self-clause-sends : goal.returns-then-self-clause-sends
returns-then-self-clause-sends g c = λ base all so_far. Sends-lost base _ _ _ all c.args.bytes.now c.if-self.true (c.make_room.ensures.sends base all so_far)

pub returns-else-bytes-self-clause-sends : goal.returns-else-bytes-self-clause-sends
returns-else-bytes-self-clause-sends g c = λ base all so_far. Sends-buffered base _ _ _ _ _ all c.args.bytes.now c.hold.ensures.failed c.hold.ensures.buffered (c.make_room.ensures.sends base all so_far)
