use Rattle.std.proofs.Common.{refl}
use Rattle.office_program.proofs.EnteringLemmas.Asked.{asked, next_is}
use Rattle.office_program.proofs.entering.asking.ask_at.Goals as goal

pub returns-in-Ok-clause-asks : goal.returns-in-Ok-clause-asks
returns-in-Ok-clause-asks g c = λ past stands clean.
    asked g.B.Books.ledger past c.args.progress _ _ (g.W.Write.contents c.args.output.now) (g.W.Write.contents c.print_reply.new.output) c.feed-reply.new.self c.args.at
    c.args.event.now c.feed-reply.result _ _ (c.feed-reply.ensures.stands past stands clean) (c.feed-reply.ensures.answers past stands clean)
    (c.feed-reply.ensures.reported past stands clean) refl c.in-Ok.ensures
    (next_is c.args.progress c.asked.result c.args.at c.args.event.now c.feed-reply.result c.is_err.result c.asked.ensures c.is_err.ensures.value)

pub returns-in-Err-clause-asks : goal.returns-in-Err-clause-asks
returns-in-Err-clause-asks g c = λ past stands clean.
    asked g.B.Books.ledger past c.args.progress _ _ (g.W.Write.contents c.args.output.now) (g.W.Write.contents c.print_reply.new.output) c.feed-reply.new.self c.args.at
    c.args.event.now c.feed-reply.result _ _ (c.feed-reply.ensures.stands past stands clean) (c.feed-reply.ensures.answers past stands clean)
    (c.feed-reply.ensures.reported past stands clean) refl c.in-Err.ensures tt
