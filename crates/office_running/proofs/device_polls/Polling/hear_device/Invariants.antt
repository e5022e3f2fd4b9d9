use Rattle.std.proofs.Common.{ℕ, List}
use Rattle.office_running.specs.Runs.{Goes}
use Rattle.office_running.proofs.device_polls.Polling.hear_device.Given as goal

abbrev pub invariant-loop-piece : goal.invariant-loop-piece
invariant-loop-piece g l = (names : List (List ℕ)) → Goes names l.now.moment g.B.Books.ledger l.fn.office l.office
