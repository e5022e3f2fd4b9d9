use Rattle.std.proofs.Common.{ap, subst}
use Rattle.office_http.specs.Messages.Sending.Sending.{OnlyGives, Outgoing}
use Rattle.office_http.specs.Rows.Reports.{Report}
use Rattle.interval_core.specs.Report.{day_line}
use Rattle.office_http.specs.Serving.{Puts}
use Rattle.office_http.proofs.Reported.{days_reported, lines_give}
use Rattle.office_http.proofs.Served.{lasts_asked, still}
use Rattle.office_http.proofs.answers.write_days.Goals as goal

pub returns : goal.returns
returns g c =
    let ledger = g.B.Books.ledger in
    let old = c.args.office.now in
    let new = c.days-answer.new.self in
    let read = c.args.bytes.now in
    let start = c.new-lines.result in
    let lines = c.days-answer.new.sink in
    let answer = c.days-answer.result in
    let out = c.finish_report.result.writer in
    let cut = c.finish_report.result.cut in
    let none = ap (λ (r : Report). r.count) c.new-lines.ensures in
    let from = ap (λ (r : Report). r.out) c.new-lines.ensures in
    record {
      serves = λ past stands clean.
          subst (λ (o : Outgoing). Puts ledger past c.args.moment read old new o out cut) from
          (days_reported ledger past c.args.moment read old new c.args.register.now start lines answer out cut
          (c.days-answer.ensures.days past stands clean) none c.finish_report.ensures c.requires.nothing c.requires.replies
          (still ledger past old new c.days-answer.result c.days-answer.ensures.asks stands) c.days-answer.ensures.asks.stopped.0);
      gives =
          subst (λ (o : Outgoing). OnlyGives o out) from
          (lines_give day_line c.days-answer.ensures.puts.0 start lines answer out cut c.days-answer.ensures.puts.1 none c.finish_report.ensures);
      lasts = lasts_asked ledger old new answer c.days-answer.ensures.asks;
    }
