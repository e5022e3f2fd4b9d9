use Rattle.office_http.specs.Messages.Hosts.{texts}
use Rattle.office_running.specs.Runs.{Goes}
use Rattle.office_running.proofs.event_loop.Running.attend_devices.Given as goal

abbrev pub invariant-loop-place : goal.invariant-loop-place
invariant-loop-place g l = Goes (texts l.names) l.now.moment g.B.Books.ledger l.fn.office l.office
