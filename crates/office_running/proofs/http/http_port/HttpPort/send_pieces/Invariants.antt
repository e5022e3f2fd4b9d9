use Rattle.office_running.specs.Http.Clients.{OnlyQueries}
use Rattle.office_running.proofs.http.http_port.HttpPort.send_pieces.Given as goal

abbrev pub invariant-loop-piece : goal.invariant-loop-piece
invariant-loop-piece g l = OnlyQueries g.B.Books.ledger l.fn.office l.office
