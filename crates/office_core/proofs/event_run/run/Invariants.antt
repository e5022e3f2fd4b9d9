use Rattle.std.proofs.Common.{◌≡◌, take, length, vec_len, vec_capacity}
use Rattle.office_core.specs.EventRun.{in_turn}
use Rattle.office_core.proofs.Runs.{SoFar}
use Rattle.office_core.proofs.event_run.run.Given as goal

abbrev pub invariant-loop-moment : goal.invariant-loop-moment
invariant-loop-moment g l = record {
  so_far : SoFar g.B.Books.ledger l.fn.books l.opened (in_turn (take l.moment-index l.events) l.results.items) l.office;
  count : vec_len l.results ≡ l.moment-index;
  room : vec_capacity l.results ≡ length l.events;
}
