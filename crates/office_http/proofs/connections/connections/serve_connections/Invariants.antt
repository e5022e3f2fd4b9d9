use Rattle.office_http.specs.Messages.Hosts.{texts}
use Rattle.office_core.specs.Standing.{After}
use Rattle.office_http.specs.Serving.{Lasts}
use Rattle.office_http.specs.Connections.Connections.{ServesUpTo}
use Rattle.office_http.proofs.connections.connections.serve_connections.Given as goal

abbrev pub invariant-loop-connection : goal.invariant-loop-connection
invariant-loop-connection g l = record {
  serves : After g.B.Books.ledger l.fn.office l.office (λ past. ServesUpTo (texts l.names) l._connection (g.C.Clock.moments l.fn.clock) (g.C.Clock.moments l.clock) g.B.Books.ledger past l.office);
  lasts : Lasts g.B.Books.ledger l.fn.office l.office;
}
