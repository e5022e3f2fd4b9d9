use Rattle.std.proofs.Common.{◌≡◌, rules}
use Rattle.office_events.specs.Names.{named}
use Rattle.office_program.proofs.Done.{as_reported}
use Rattle.office_program.proofs.report.report_books.Goals as goal

pub returns-in-Ok-clause-reports : goal.returns-in-Ok-clause-reports
returns-in-Ok-clause-reports g c = λ past stand clean.
    let name : c.new.result ≡ named c.args.register.now = search rules in
    as_reported g.B.Books.ledger g.W.Write.contents past c.args.register.now c.new.result _ _ c.args.books c.into_books.result c.in-Ok.office
    c.report_days-end.new.office c.args.output.now c.open_office_to_ask.new.output _ c.report_days-end.result name
    (c.in-Ok.ensures.opened past stand) c.in-Ok.ensures.silent c.report_days-end.ensures.prints c.report_days-end.ensures.asks
    c.into_books.ensures clean
