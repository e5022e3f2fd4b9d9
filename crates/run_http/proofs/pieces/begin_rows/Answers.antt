use Rattle.std.proofs.Common.{refl}
use Rattle.run_http.specs.Pieces.{first_asked}
use Rattle.run_http.proofs.ReplyLemmas.Pieces.{begins_lacked, begins_refused, begins_rows}
use Rattle.run_http.proofs.pieces.begin_rows.Goals as goal

pub returns-in-Ok : goal.returns-in-Ok
returns-in-Ok g c =
    let asked = rw c.in-Ok.is at c.in_ok-answer.ensures in
    begins_rows g.B.Books.ledger c.args.office.now c.ask_intervals.new.office c.args.it.now c.args.from c.args.till (first_asked c.args.it.now c.args.from)
    c.end_of_streamed-end.result c.in-Ok.last _ c.shares_add_up.ensures c.facts_are_lawful.ensures refl c.end_of_streamed-end.ensures asked refl
    c.first_asked-first.ensures refl refl refl

pub returns-in-Err : goal.returns-in-Err
returns-in-Err g c =
    let asked = rw c.in-Err.is at c.in_ok-answer.ensures in
    begins_refused g.B.Books.ledger c.args.office.now c.ask_intervals.new.office c.args.it.now c.args.from c.args.till c.end_of_streamed-end.result c.in-Err.why
    asked

pub returns-in_err-answer : goal.returns-in_err-answer
returns-in_err-answer g c =
    begins_lacked g.B.Books.ledger c.args.office.now c.ask_intervals.new.office c.args.it.now c.args.from c.args.till c.end_of_streamed-end.result
    c.in_err-answer.field-0.0 c.from_residual.result c.in_err-answer.ensures c.from_residual.ensures.0
