use Rattle.std.proofs.Common.{Ok, Err}
use Rattle.office_core.specs.Parts.{intervals_within}
use Rattle.run_http.proofs.ReplyLemmas.Rows.{asked, lacked}
use Rattle.run_http.proofs.meter_replies.ask_intervals.Goals as goal

pub returns-in_err-rows : goal.returns-in_err-rows
returns-in_err-rows g c =
    lacked g.B.Books.ledger c.args.office.now c.intervals_within-answer.new.self (λ facts. intervals_within facts c.args.meter.now c.args.span)
    c.intervals_within-answer.new.sink.rows c.intervals_within-answer.result c.from_residual.result c.intervals_within-answer.ensures.asks
    c.from_residual.ensures.0

pub returns-in-Ok : goal.returns-in-Ok
returns-in-Ok g c =
    asked g.B.Books.ledger c.args.office.now c.intervals_within-answer.new.self (λ facts. intervals_within facts c.args.meter.now c.args.span)
    c.new-kept.result c.intervals_within-answer.new.sink c.in_ok-rows.rows (Ok tt) c.in-Ok.ensures.rows c.in-Ok.ensures.asks c.new-kept.ensures.none
    c.in_ok-rows.ensures.whole c.in_ok-rows.ensures.rows

pub returns-in-Err : goal.returns-in-Err
returns-in-Err g c =
    asked g.B.Books.ledger c.args.office.now c.intervals_within-answer.new.self (λ facts. intervals_within facts c.args.meter.now c.args.span)
    c.new-kept.result c.intervals_within-answer.new.sink c.in_ok-rows.rows (Err c.in-Err.why) c.in-Err.ensures.rows c.in-Err.ensures.asks c.new-kept.ensures.none
    c.in_ok-rows.ensures.whole c.in_ok-rows.ensures.rows
