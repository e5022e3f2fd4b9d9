use Rattle.run_http.proofs.ReplyLemmas.Pieces.{sized}
use Rattle.run_http.proofs.pieces.ask_sizes.Goals as goal

pub returns-in-Ok : goal.returns-in-Ok
returns-in-Ok g c =
    sized g.B.Books.ledger c.args.office.now c.args.office.now c.intervals_within-answer.new.self c.args.left.now c.new-sizes.result
    c.intervals_within-answer.new.sink c.in_ok-reported.reported c.new-sizes.ensures.sizes c.in_ok-reported.ensures.whole c.in_ok-reported.ensures.sizes
    c.in-Ok.ensures.rows c.in-Ok.ensures.asks
