use Rattle.std.proofs.Common.{ℕ, List}
use Rattle.office_running.specs.Runs.{Goes}
use Rattle.office_running.proofs.event_loop.Running.hear_devices.Given as goal

abbrev pub invariant-loop-place : goal.invariant-loop-place
invariant-loop-place g l = (names : List (List ℕ)) → Goes names l.now.moment g.B.Books.ledger l.fn.office l.office
