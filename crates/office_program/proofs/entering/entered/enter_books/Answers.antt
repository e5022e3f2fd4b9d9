use Rattle.std.proofs.Common.{◌≡◌, rules}
use Rattle.office_events.specs.Names.{named}
use Rattle.office_program.specs.Entering.Lines.{reporting_of}
use Rattle.office_program.proofs.EnteringLemmas.Entered.{entered, unopened}
use Rattle.office_program.proofs.entering.entered.enter_books.Goals as goal

pub returns-in-Ok-clause-reports : goal.returns-in-Ok-clause-reports
returns-in-Ok-clause-reports g c = λ past stand clean.
    let name : c.new-caller.result ≡ named c.args.caller.now = search rules in
    entered g.B.Books.ledger g.W.Write.contents (reporting_of g.F.NamedFiles c.args.files.now) past c.args.caller.now c.args.text.now c.new-caller.result
    (g.C.Clock.moments c.args.clock.now) (g.C.Clock.moments c.now-first.new.self) (g.C.Clock.moments c.enter_text-end.new.clock) _ _ c.now-first.result c.args.books
    c.into_books.result c.in-Ok.office c.enter_text-end.new.office c.args.output.now c.open_office.new.output (g.W.Write.contents c.enter_text-end.new.output)
    c.enter_text-end.result name c.now-first.ensures c.new-opening.ensures (c.in-Ok.ensures.opened past stand) c.in-Ok.ensures.silent c.enter_text-end.ensures.lasts.clean
    c.enter_text-end.ensures.enters c.into_books.ensures clean

pub returns-in-Err-clause-reports : goal.returns-in-Err-clause-reports
returns-in-Err-clause-reports g c = λ past stand clean.
    unopened g.B.Books.ledger (reporting_of g.F.NamedFiles c.args.files.now) past c.args.caller.now c.args.text.now (g.C.Clock.moments c.args.clock.now)
    (g.C.Clock.moments c.now-first.new.self) _ _ c.now-first.result c.args.books _ _ _ _ c.now-first.ensures c.new-opening.ensures
    (c.in-Err.ensures.refused past stand clean)
