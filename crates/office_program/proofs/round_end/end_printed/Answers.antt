use Rattle.std.proofs.Common.{refl, inl}
use Rattle.std.specs.Prelude.{Ok}
use Rattle.office_program.proofs.Closings.{ended_err, not_refused}
use Rattle.office_program.proofs.round_end.end_printed.Goals as goal

pub returns-in-Ok-clause-ends : goal.returns-in-Ok-clause-ends
returns-in-Ok-clause-ends g c = λ moments later past stands clean.
    let feeds = c.in-Ok.ensures.feeds moments later past stands clean in
    record { reply = Ok c.in-Ok.field-0; taken = feeds.0; stops = not_refused _ _ _ c.in-Ok.field-0; printed = inl (refl, feeds.1) }

pub returns-in-Err-clause-ends : goal.returns-in-Err-clause-ends
returns-in-Err-clause-ends g c = λ moments later past stands clean.
    ended_err g.B.Books.ledger past c.args.at c.args.gone.now c.args.cause c.in-Err.fault c.fault_after.result _ _ c.args.office.now c.feed.new.office
    (c.in-Err.ensures.feeds moments later past stands clean) c.in-Err.ensures.stops c.fault_after.ensures
