use Rattle.std.proofs.Common.{◌≡◌, rules}
use Rattle.office_events.specs.Names.{named}
use Rattle.office_program.proofs.Done.{stated}
use Rattle.office_program.proofs.statement.statement_books.Goals as goal

pub returns-in-Ok-clause-reports : goal.returns-in-Ok-clause-reports
returns-in-Ok-clause-reports g c = λ past stand clean.
    let name : c.new-name.result ≡ named c.args.register.now = search rules in
    stated g.B.Books.ledger g.W.Write.contents past c.args.register.now c.new-name.result c.args.form.now c.zone-zone.result _ _ c.args.books c.into_books.result
    c.in-Ok.office c.report_statement-end.new.office c.args.output.now c.open_office_to_ask.new.output _ c.report_statement-end.result name c.zone-zone.ensures
    (c.in-Ok.ensures.opened past stand) c.in-Ok.ensures.silent c.report_statement-end.ensures.prints c.report_statement-end.ensures.asks
    c.into_books.ensures clean
