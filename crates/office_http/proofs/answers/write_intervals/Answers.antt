use Rattle.std.proofs.Common.{ap, subst}
use Rattle.office_http.specs.Messages.Routing.Routes.{routes}
use Rattle.office_http.specs.Messages.Sending.Sending.{OnlyGives, Outgoing}
use Rattle.office_http.specs.Rows.Reports.{Report}
use Rattle.office_http.specs.Messages.Replies.{lines_reply, reply_bytes}
use Rattle.office_http.specs.Messages.WholeResponses.{IsReply}
use Rattle.interval_core.specs.Lines.{intervals_text, share_line}
use Rattle.office_books.specs.History.{facts_of}
use Rattle.office_core.specs.Asking.{intervals_of}
use Rattle.office_http.specs.Serving.{Puts}
use Rattle.office_http.proofs.Few.{FromJournals, few_named}
use Rattle.office_http.proofs.Reported.{lines_give, rows_reported}
use Rattle.office_http.proofs.Served.{lasts_asked, still}
use Rattle.office_http.proofs.answers.write_intervals.Goals as goal

pub returns : goal.returns
returns g c =
    let ledger = g.B.Books.ledger in
    let old = c.args.office.now in
    let new = c.intervals-answer.new.self in
    let read = c.args.bytes.now in
    let start = c.new-lines.result in
    let lines = c.intervals-answer.new.sink in
    let answer = c.intervals-answer.result in
    let out = c.finish_report.result.writer in
    let cut = c.finish_report.result.cut in
    let none = ap (λ (r : Report). r.count) c.new-lines.ensures in
    let from = ap (λ (r : Report). r.out) c.new-lines.ensures in
    let law : FromJournals = record { accounts = c.interval_rows_are_accounts.ensures; within = c.rows_lie_within.ensures; no_further = c.voids_go_no_further.ensures } in
    record {
      serves = λ past stands clean.
          subst (λ (o : Outgoing). Puts ledger past c.args.moment read old new o out cut) from
          (rows_reported ledger past c.args.moment read old new share_line (intervals_of (facts_of past) c.args.meter.now) start lines answer out cut
          (c.intervals-answer.ensures.rows past stands clean) none c.finish_report.ensures
          (few_named law (facts_of past) c.args.meter.now (c.facts_are_lawful.ensures past stands.books.is_past.accepted stands.books.is_past.planned))
          c.requires.nothing
          (λ office answers. subst (λ a. IsReply office routes read (reply_bytes (lines_reply intervals_text a))) (answers.intervals c.args.meter.now) (c.requires.replies office))
          (still ledger past old new c.intervals-answer.result c.intervals-answer.ensures.asks stands) c.intervals-answer.ensures.asks.stopped.0);
      gives =
          subst (λ (o : Outgoing). OnlyGives o out) from
          (lines_give share_line c.intervals-answer.ensures.puts.0 start lines answer out cut c.intervals-answer.ensures.puts.1 none c.finish_report.ensures);
      lasts = lasts_asked ledger old new answer c.intervals-answer.ensures.asks;
    }
