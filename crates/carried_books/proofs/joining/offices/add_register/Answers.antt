use Rattle.std.proofs.Common.{List, subst}
use Rattle.std.specs.declared.alloc.Global.{Global}
use Rattle.std.specs.declared.vec.Vec.{Vec}
use Rattle.office_core.proofs.SeveralAsked.{refused_as}
use Rattle.office_events.specs.declared.questions.Installation.{Installation}
use Rattle.carried_books.specs.Joining.Offices.{AsksMeters}
use Rattle.carried_books.proofs.JoiningLemmas.Offices.{asks_both, register_missing, register_taken}
use Rattle.carried_books.proofs.joining.offices.add_register.Goals as goal

pub returns-in-Err-clause-rows : goal.returns-in-Err-clause-rows
returns-in-Err-clause-rows g c =
    register_missing g.B.Books.ledger c.args.office.now c.meters.new.self c.args.register.now c.args.span c.args.days.now c.in-Err.why c.in-Err.ensures.listed

pub returns-in-Err-clause-asks : goal.returns-in-Err-clause-asks
returns-in-Err-clause-asks g c =
    refused_as g.B.Books.ledger {T = Vec Installation Global} {U = Unit {0}} c.args.office.now c.meters.new.self c.in-Err.why c.in-Err.ensures.asks

pub returns-in-Ok-clause-rows : goal.returns-in-Ok-clause-rows
returns-in-Ok-clause-rows g c =
    let ledger = g.B.Books.ledger in
    let b = c.meters.new.self in
    let d = c.add_meters_within.new.office in
    let P : List Installation → Type 0 = λ listed.
    AsksMeters ledger b d listed c.args.span c.args.days.now c.add_meters_within.new.days c.add_meters_within.result in
    register_taken ledger c.args.office.now b d c.args.register.now c.args.span c.in-Ok.meters c.args.days.now c.add_meters_within.new.days
    c.add_meters_within.result c.facts_are_lawful.ensures c.in-Ok.ensures.asks c.in-Ok.ensures.listed
    (subst P c.deref.ensures.value c.add_meters_within.ensures)

pub returns-in-Ok-clause-asks : goal.returns-in-Ok-clause-asks
returns-in-Ok-clause-asks g c =
    asks_both g.B.Books.ledger c.args.office.now c.meters.new.self c.add_meters_within.new.office c.in-Ok.meters c.add_meters_within.result
    c.in-Ok.ensures.asks c.add_meters_within.ensures.left
