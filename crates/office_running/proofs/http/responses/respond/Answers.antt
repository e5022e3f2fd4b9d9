use Rattle.std.proofs.Common.{List, ℕ, Ok, Err, subst}
use Rattle.std.specs.declared.alloc.AllocError.{AllocError}
use Rattle.office_running.specs.Http.Responses.{RepliesRoute}
use Rattle.office_running.proofs.http.responses.respond.Goals as goal

pub returns-in-Ok : goal.returns-in-Ok
returns-in-Ok g c =
    subst (λ (from : List ℕ). RepliesRoute g.B.Books.ledger c.args.office.now c.reply_route.new.office c.args.context.now c.args.route.now from
    c.reply_route.new.text.items {E = AllocError} (Ok tt)) c.new-text.ensures.items c.in-Ok.ensures

pub returns-in-Err : goal.returns-in-Err
returns-in-Err g c = (
  c.reply_route.new.text.items,
  c.in-Err.field-0,
  subst (λ (from : List ℕ). RepliesRoute g.B.Books.ledger c.args.office.now c.reply_route.new.office c.args.context.now c.args.route.now from
      c.reply_route.new.text.items (Err c.in-Err.field-0)) c.new-text.ensures.items c.in-Err.ensures,
)
