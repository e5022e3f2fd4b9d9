use Rattle.std.proofs.Common.{List, subst}
use Rattle.command_io.specs.declared.status.ExitStatus.TheVariants.{Fine}
use Rattle.energy_report.specs.Texts.{report_text}
use Rattle.interval_core.specs.declared.totals.DayTotal.{DayTotal}
use Rattle.office_program.specs.Texts.EndTexts.{IsReported}
use Rattle.carried_books.proofs.JoiningLemmas.Reports.{is_over}
use Rattle.carried_books.proofs.joining.reports.report_joined.Goals as goal

pub returns : goal.returns
returns g c = λ zone register files has fits.
    let contents = g.W.Write.contents in
    let form = c.args.form.now in
    let days = c.into_rows-days.result.items in
    let P : List DayTotal → Type 0 = λ those.
    IsReported (report_text form those) Fine c.report_days.result (contents c.args.output.now) (contents c.report_days.new.output) in
    record {
      text = report_text form days;
      is = is_over zone register files form c.args.joined days c.accounts_are_one.ensures has fits c.into_rows-days.ensures;
      reported = subst P c.deref.ensures.value c.report_days.ensures;
    }
