use Rattle.std.proofs.Common.{◌≡◌, true, rules}
use Rattle.energy_report.specs.Statements.{was_installed}
use Rattle.office_program.proofs.StatementLemmas.{one_refused, one_stated}
use Rattle.office_program.proofs.texts.statement.add_statement.Goals as goal

pub returns-in-Err-clause-states : goal.returns-in-Err-clause-states
returns-in-Err-clause-states g c =
    let rows = c.args.rows.now.items in
    one_refused g.B.Books.ledger c.args.zone.now c.args.range.now c.args.office.now c.meter_statement.new.office c.args.row.now rows rows c.in-Err.why
    c.in-Err.ensures.reports

pub returns-in-Ok-push-clause-states : goal.returns-in-Ok-push-clause-states
returns-in-Ok-push-clause-states g c =
    let there : was_installed c.args.zone.now c.args.range.now c.args.row.now ≡ true = search rules in
    one_stated g.B.Books.ledger c.args.zone.now c.args.range.now c.args.office.now c.meter_statement.new.office c.args.row.now c.args.rows.now.items
    c.push.new.self.items c.in-Ok.statement there c.in-Ok-push.ensures.items c.in-Ok.ensures.reports
