use Rattle.energy_report.specs.Texts.{report_text}
use Rattle.office_running.proofs.HttpLemmas.OverLemmas.{append_whole}
use Rattle.office_running.proofs.http.energy_over.write_days.Goals as goal

pub returns-in-Fine : goal.returns-in-Fine
returns-in-Fine c =
    append_whole (report_text c.args.form.now c.args.days.now) c.report_days.result c.args.output.now.items c.report_days.new.output.items c.in-Fine.is
    c.report_days.ensures
