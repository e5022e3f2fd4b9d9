use Rattle.std.proofs.Common.{ℕ, inl, inr, Ok, Err, ap, refl}
use Rattle.std.specs.declared.alloc.Global.{Global}
use Rattle.std.specs.declared.vec.Vec.{Vec}
use Rattle.office_http.specs.declared.fault.HandleFault.TheVariants as fault
use Rattle.run_http.proofs.ReplyLemmas.Handed.{handed}
use Rattle.run_http.proofs.answer.ask.Goals as goal

pub returns-in-Ok-clause-asks : goal.returns-in-Ok-clause-asks
returns-in-Ok-clause-asks g c =
    inl
    (handed g.B.Books.ledger c.args.moment c.args.office.now c.handle.new.office c.args.request.now c.new-link.result.input.now
    c.handle.new.link.input.now c.new-link.result.reply.items c.handle.new.link.reply.items c.into_reply.result.items c.handle.new.link.last
    (Ok tt) c.new-link.ensures.input c.new-link.ensures.reply (ap (λ (v : Vec ℕ Global). v.items) c.into_reply.ensures) c.in-Ok.ensures.handles)

pub returns-in-Err-Write-clause-asks : goal.returns-in-Err-Write-clause-asks
returns-in-Err-Write-clause-asks g c =
    let handles = rw c.in-Err-Write.field-0-is at c.in-Err-Write.ensures.handles in (
      c.handle.new.link.reply.items,
      inr
          (inl
          (handed g.B.Books.ledger c.args.moment c.args.office.now c.handle.new.office c.args.request.now c.new-link.result.input.now
          c.handle.new.link.input.now c.new-link.result.reply.items c.handle.new.link.reply.items c.handle.new.link.reply.items
          c.handle.new.link.last (Err fault.Write) c.new-link.ensures.input c.new-link.ensures.reply refl handles)),
    )

pub returns-in-Err-TurnsUsed-clause-asks : goal.returns-in-Err-TurnsUsed-clause-asks
returns-in-Err-TurnsUsed-clause-asks g c =
    let handles = rw c.in-Err-TurnsUsed.field-0-is at c.in-Err-TurnsUsed.ensures.handles in (
      c.handle.new.link.reply.items,
      inr
          (inr
          (handed g.B.Books.ledger c.args.moment c.args.office.now c.handle.new.office c.args.request.now c.new-link.result.input.now
          c.handle.new.link.input.now c.new-link.result.reply.items c.handle.new.link.reply.items c.handle.new.link.reply.items
          c.handle.new.link.last (Err fault.TurnsUsed) c.new-link.ensures.input c.new-link.ensures.reply refl handles)),
    )
