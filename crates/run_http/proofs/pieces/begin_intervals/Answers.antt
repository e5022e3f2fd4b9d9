use Rattle.run_http.proofs.ReplyLemmas.Pieces.{begins_sized}
use Rattle.run_http.proofs.pieces.begin_intervals.Goals as goal

pub returns : goal.returns
returns g c =
    let begins = rw c.in-Ok.is at c.in_ok-left.ensures in
    let sized = rw c.in-Ok-2.is at c.in_ok-sizes.ensures in
    begins_sized g.B.Books.ledger c.args.office.now c.begin_rows.new.office c.ask_sizes.new.office c.args.it.now c.args.from c.args.till c.in_ok-size.size
    c.args.text.now.items c.write_head.new.text.items c.in-Ok.left c.in-Ok-2.sizes begins sized c.in_ok-size.ensures c.in_ok-write_head.ensures
