use Rattle.run_http.proofs.ReplyLemmas.Pieces.{with_text_head}
use Rattle.run_http.proofs.pieces.begin_all_intervals.Goals as goal

pub returns-in_ok-write_text_head-in-Ok : goal.returns-in_ok-write_text_head-in-Ok
returns-in_ok-write_text_head-in-Ok g c =
    let begins = rw c.in-Ok.is at c.in_ok-begun.ensures in
    with_text_head g.B.Books.ledger c.args.office.now c.begin_rows.new.office c.args.it.now 0 18446744073709551615 c.args.text.now.items
    c.write_text_head.new.text.items c.in-Ok.left begins c.in_ok-write_text_head-in-Ok.ensures
