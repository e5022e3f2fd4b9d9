use Rattle.std.proofs.Common.{subst}
use Rattle.stored_files.specs.declared.ends.ending.Ending.{Ending}
use Rattle.file_commands.specs.JoinedReports.{ReportsOne}
use Rattle.file_commands.proofs.Joined.{if_fine}
use Rattle.file_commands.proofs.joined_reports.report_register.Goals as goal

pub returns-in-Ok : goal.returns-in-Ok
returns-in-Ok g c =
    let had = g.W.Write.contents c.args.output.now in
    let holds = g.W.Write.contents c.report_recorded.new.output in
    if_fine _ c.report_recorded.result (λ fine. record {
      joined = c.in-Ok.joined;
      joins = c.in-Ok.ensures;
      reports = subst (λ (e : Ending). ReportsOne c.in-Ok.joined c.args.form.now had holds e) fine c.report_recorded.ensures;
    })

pub returns-in-Err : goal.returns-in-Err
returns-in-Err g c = if_fine _ c.end_unjoined.result (λ fine. absurd (c.end_unjoined.ensures fine))
