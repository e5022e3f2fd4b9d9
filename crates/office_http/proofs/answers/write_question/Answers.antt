use Rattle.std.proofs.Common.{sym, subst}
use Rattle.std.specs.Option.{option_and_then}
use Rattle.office_http.specs.Messages.Routing.Routes.{routes}
use Rattle.office_http.specs.Messages.Routing.Targets.{name_of}
use Rattle.office_http.specs.declared.messages.routing.routes.Route.{Route}
use Rattle.office_http.specs.Messages.Replies.{lines_reply, poll_reply, question_reply, reply_bytes, row_reply}
use Rattle.office_http.specs.Messages.Rows.{meter_text}
use Rattle.office_http.specs.Messages.WholeResponses.{IsReply}
use Rattle.interval_core.specs.Lines.{days_text, intervals_text}
use Rattle.office_books.specs.History.{facts_of}
use Rattle.office_books.specs.Meters.{meter_of}
use Rattle.office_http.proofs.Served.{lasts_asked, row_reported, still}
use Rattle.office_http.proofs.answers.write_question.Goals as goal

pub returns-in-Meter : goal.returns-in-Meter
returns-in-Meter g c =
    let ledger = g.B.Books.ledger in
    let old = c.args.office.now in
    let new = c.meter-answer.new.self in
    let read = c.args.bytes.now in
    let name = c.name_asked.result in
    let taken = name_of c.args.found.now in
    record {
      serves = λ past stands clean. record {
        put = reply_bytes (row_reply meter_text c.meter-answer.result);
        serves =
            row_reported ledger past c.args.moment read old new meter_text (option_and_then (meter_of (facts_of past)) name) c.meter-answer.result
            (c.meter-answer.ensures.found past stands clean) c.requires.nothing
            (λ office answers. subst (λ a. IsReply office routes read (reply_bytes (row_reply meter_text a))) (answers.meter name)
            (subst (λ n. IsReply office routes read (reply_bytes (row_reply meter_text (office.meter n)))) (sym c.name_asked.ensures)
            (subst (λ (r : Route). IsReply office routes read (reply_bytes (question_reply office r taken))) c.in-Meter.is (c.requires.reply office))))
            (still ledger past old new c.meter-answer.result c.meter-answer.ensures.asks stands) c.meter-answer.ensures.asks.stopped.0;
        puts = c.append_meter.ensures;
      };
      gives = c.append_meter.ensures.link;
      lasts = lasts_asked ledger old new c.meter-answer.result c.meter-answer.ensures.asks;
    }

pub write_poll_asked-requires : goal.write_poll_asked-requires
write_poll_asked-requires g c =
    let read = c.args.bytes.now in
    let taken = name_of c.args.found.now in
    record {
      nothing = c.requires.nothing;
      replies = λ office. subst (λ n. IsReply office routes read (reply_bytes (poll_reply office n))) (sym c.number_asked.ensures)
          (subst (λ (r : Route). IsReply office routes read (reply_bytes (question_reply office r taken))) c.in-Poll.is (c.requires.reply office));
    }

pub write_intervals-requires : goal.write_intervals-requires
write_intervals-requires g c =
    let read = c.args.bytes.now in
    let taken = name_of c.args.found.now in
    record {
      nothing = c.requires.nothing;
      replies = λ office. subst (λ n. IsReply office routes read (reply_bytes (lines_reply intervals_text (office.intervals n)))) (sym c.name_asked-in-Intervals.ensures)
          (subst (λ (r : Route). IsReply office routes read (reply_bytes (question_reply office r taken))) c.in-Intervals.is (c.requires.reply office));
    }

pub write_days-requires : goal.write_days-requires
write_days-requires g c =
    let read = c.args.bytes.now in
    let taken = name_of c.args.found.now in
    record {
      nothing = c.requires.nothing;
      replies = λ office. subst (λ n. IsReply office routes read (reply_bytes (lines_reply days_text (office.days n)))) (sym c.name_asked-in-Days.ensures)
          (subst (λ (r : Route). IsReply office routes read (reply_bytes (question_reply office r taken))) c.in-Days.is (c.requires.reply office));
    }
