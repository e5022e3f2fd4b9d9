use Rattle.run_http.proofs.ReplyLemmas.Pieces.{reports_on, reports_refused}
use Rattle.run_http.proofs.pieces.write_next_rows.Goals as goal

pub returns-in_ok-add_piece-in-Ok : goal.returns-in_ok-add_piece-in-Ok
returns-in_ok-add_piece-in-Ok g c =
    let asked = rw c.in-Ok.is at c.in_ok-answer.ensures in
    reports_on g.B.Books.ledger c.args.office.now c.ask_intervals.new.office c.args.left.now c.add_piece.new.left c.args.seconds c.piece_end-till.result
    c.args.text.now.items c.add_piece.new.text.items c.in-Ok.rows c.deref.result.now c.shares_add_up.ensures c.facts_are_lawful.ensures
    c.piece_end-till.ensures.low c.piece_end-till.ensures.high c.piece_end-till.ensures.none c.piece_end-till.ensures.some c.piece_end-till.ensures.few
    asked c.deref.ensures.value c.in_ok-add_piece-in-Ok.ensures.text c.in_ok-add_piece-in-Ok.ensures.left

pub returns-in-Err : goal.returns-in-Err
returns-in-Err g c =
    let asked = rw c.in-Err.is at c.in_ok-answer.ensures in
    reports_refused g.B.Books.ledger c.args.office.now c.ask_intervals.new.office c.args.left.now c.args.left.now c.args.seconds c.piece_end-till.result
    c.args.text.now.items c.args.text.now.items c.in-Err.why asked
