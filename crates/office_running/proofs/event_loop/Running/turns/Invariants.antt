use Rattle.std.proofs.Common.{◌≡◌}
use Rattle.office_http.specs.Messages.Hosts.{texts}
use Rattle.office_running.proofs.Going.{Begins}
use Rattle.office_running.proofs.event_loop.Running.turns.Given as goal

abbrev pub invariant-loop-turn : goal.invariant-loop-turn
invariant-loop-turn g l = record {
  begins : Begins (texts l.names) g.B.Books.ledger l.fn.steady.latest l.steady.latest (g.C.Clock.moments l.fn.clock) (g.C.Clock.moments l.clock) l.fn.office l.office;
  is_latest : l.moment ≡ l.steady.latest;
}
