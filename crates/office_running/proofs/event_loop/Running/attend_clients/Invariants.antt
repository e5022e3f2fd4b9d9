use Rattle.office_http.specs.Messages.Hosts.{texts}
use Rattle.office_running.specs.Runs.{Goes}
use Rattle.office_running.proofs.event_loop.Running.attend_clients.Given as goal

abbrev pub invariant-loop-step : goal.invariant-loop-step
invariant-loop-step g l = Goes (texts l.names) l.now.moment g.B.Books.ledger l.fn.office l.office
