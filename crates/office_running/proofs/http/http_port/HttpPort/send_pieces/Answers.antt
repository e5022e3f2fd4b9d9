use Rattle.office_running.proofs.HttpLemmas.ServingClients.{both_query, queries_nothing}
use Rattle.office_running.proofs.http.http_port.HttpPort.send_pieces.Goals as goal

pub loop-piece-init : goal.loop-piece-init
loop-piece-init g c = queries_nothing g.B.Books.ledger c.args.office.now

pub loop-piece-preserved : goal.loop-piece-preserved
loop-piece-preserved g c =
    both_query g.B.Books.ledger c.args.office.now c.loop-piece.office c.send_piece.new.office c.loop-piece.invariant c.send_piece.ensures
