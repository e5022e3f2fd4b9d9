use Rattle.std.proofs.Common.{List, ◌≡◌, ◌++◌, Ok, Err, subst}
use Rattle.energy_report.specs.Texts.{report_text}
use Rattle.interval_core.specs.declared.totals.DayTotal.{DayTotal}
use Rattle.office_books.specs.declared.spans.Span.{Span}
use Rattle.carried_books.specs.Joining.Offices.{ReportsDaysOver}
use Rattle.office_running.proofs.HttpLemmas.OverLemmas.{answered, refused, unwritten}
use Rattle.office_running.proofs.http.energy_over.write_energy_over.Goals as goal

pub returns-in-Err : goal.returns-in-Err
returns-in-Err g c =
    let ledger = g.B.Books.ledger in
    let a = c.args.office.now in
    let b = c.days_over.new.office in
    let P : Span → Type 0 = λ asked. ReportsDaysOver ledger a b c.args.zone c.args.earlier.now c.args.register.now asked (Err c.in-Err.why) in
    refused ledger a b c.args.zone c.args.earlier.now c.args.register.now c.args.form.now c.args.output.now.items c.in-Err.why c.in-Err.ensures.asks
    (subst P c.span_around.ensures.span c.in-Err.ensures.days)

pub returns-in_err-write_days-in-Ok : goal.returns-in_err-write_days-in-Ok
returns-in_err-write_days-in-Ok g c =
    unwritten g.B.Books.ledger c.args.office.now c.days_over.new.office c.args.zone c.args.earlier.now c.args.register.now c.args.form.now
    c.args.output.now.items c.write_days.new.output.items c.in-Ok.days c.from_residual.result c.in-Ok.ensures.asks c.from_residual.ensures.0

pub returns-in_ok-write_days-in-Ok : goal.returns-in_ok-write_days-in-Ok
returns-in_ok-write_days-in-Ok g c =
    let ledger = g.B.Books.ledger in
    let a = c.args.office.now in
    let b = c.days_over.new.office in
    let form = c.args.form.now in
    let P : Span → Type 0 = λ asked. ReportsDaysOver ledger a b c.args.zone c.args.earlier.now c.args.register.now asked (Ok c.in-Ok.days) in
    let Q : List DayTotal → Type 0 = λ those. c.write_days.new.output.items ≡ c.args.output.now.items ++ report_text form those in
    answered ledger a b c.args.zone c.args.earlier.now c.args.register.now form c.args.output.now.items c.write_days.new.output.items c.in-Ok.days
    c.accounts_are_one.ensures c.in-Ok.ensures.asks (subst P c.span_around.ensures.span c.in-Ok.ensures.days)
    (subst Q c.deref.ensures.value c.in_ok-write_days-in-Ok.ensures)
