use Rattle.std.specs.declared.alloc.Global.{Global}
use Rattle.std.specs.declared.vec.Vec.{Vec}
use Rattle.interval_core.specs.declared.totals.DayTotal.{DayTotal}
use Rattle.office_core.proofs.SeveralAsked.{asked, goes_on, refused_as, without_memory}
use Rattle.office_events.specs.declared.questions.Installation.{Installation}
use Rattle.carried_books.proofs.JoiningLemmas.Offices.{lacks_memory, lacks_register}
use Rattle.carried_books.proofs.joining.offices.without_memory.Goals as goal

pub returns-in-Ok-clause-lacks : goal.returns-in-Ok-clause-lacks
returns-in-Ok-clause-lacks g c =
    lacks_memory g.B.Books.ledger c.args.office.now c.meters.new.self c.args.register.now c.in-Ok._meters c.in-Ok.ensures.listed

pub returns-in-Ok-clause-asks : goal.returns-in-Ok-clause-asks
returns-in-Ok-clause-asks g c =
    let ledger = g.B.Books.ledger in
    let a = c.args.office.now in
    let b = c.meters.new.self in
    without_memory ledger {U = Vec DayTotal Global} a b (goes_on ledger a b c.in-Ok._meters c.in-Ok.ensures.asks) (asked ledger a b c.in-Ok._meters c.in-Ok.ensures.asks)

pub returns-in-Err-clause-lacks : goal.returns-in-Err-clause-lacks
returns-in-Err-clause-lacks g c =
    lacks_register g.B.Books.ledger c.args.office.now c.meters.new.self c.args.register.now c.in-Err.why c.in-Err.ensures.listed

pub returns-in-Err-clause-asks : goal.returns-in-Err-clause-asks
returns-in-Err-clause-asks g c =
    refused_as g.B.Books.ledger {T = Vec Installation Global} {U = Vec DayTotal Global} c.args.office.now c.meters.new.self c.in-Err.why c.in-Err.ensures.asks
