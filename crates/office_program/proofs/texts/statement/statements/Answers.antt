use Rattle.std.proofs.Common.{List, Ok, Err, subst}
use Rattle.energy_report.specs.declared.meter_statement.MeterStatement.{MeterStatement}
use Rattle.office_program.specs.Texts.Statements.{States}
use Rattle.office_program.proofs.StatementLemmas.{statements_failed, statements_reported}
use Rattle.office_program.proofs.texts.statement.statements.Goals as goal

pub returns-in-Ok-add_statements-clause-reports : goal.returns-in-Ok-add_statements-clause-reports
returns-in-Ok-add_statements-clause-reports g c =
    let ledger = g.B.Books.ledger in
    let zone = c.args.zone.now in
    let range = c.args.range.now in
    let b = c.meters.new.self in
    let d = c.add_statements.new.office in
    let rows = c.add_statements.new.rows.items in
    statements_reported ledger zone range c.args.office.now b d c.args.register.now c.in-Ok.listed c.deref.result.now rows c.deref.ensures.value
    c.in-Ok.ensures.asks c.in-Ok-add_statements.ensures.asks c.in-Ok.ensures.listed
    (subst (λ (had : List MeterStatement). States ledger zone range c.deref.result.now b d had rows (Ok tt)) c.new-rows.ensures.items
    c.in-Ok-add_statements.ensures.states)

pub returns-clause-reports : goal.returns-clause-reports
returns-clause-reports g c =
    let ledger = g.B.Books.ledger in
    let zone = c.args.zone.now in
    let range = c.args.range.now in
    let b = c.meters.new.self in
    let d = c.add_statements.new.office in
    let rows = c.add_statements.new.rows.items in
    let why = c.in-Err-add_statements.why in
    statements_failed ledger zone range c.args.office.now b d c.args.register.now c.in-Ok.listed c.deref.result.now rows why c.deref.ensures.value
    c.in-Ok.ensures.asks c.in-Err-add_statements.ensures.asks c.in-Ok.ensures.listed
    (subst (λ (had : List MeterStatement). States ledger zone range c.deref.result.now b d had rows (Err why)) c.new-rows.ensures.items
    c.in-Err-add_statements.ensures.states)
