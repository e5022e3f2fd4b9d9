use Rattle.std.proofs.Common.{◌≤◌, ◌+◌, Ok}
use Rattle.store_tables.specs.Limits.{greatest_place}
use Rattle.table_audit.specs.Looking.{Finds}
use Rattle.table_seals.proofs.PollRuns.{RunsSoFar}
use Rattle.table_seals.proofs.poll_sealing.digest_runs.Given as goal

abbrev pub invariant-loop-run : goal.invariant-loop-run
invariant-loop-run g l = record {
  finds : Finds g.S.Store l.fn.conn l.conn (Ok l.next) (λ content _. RunsSoFar l.last l.hidden l.run l.next l.hasher l.pending.items content);
  low : 1 ≤ l.next;
  bound : l.next ≤ greatest_place + 1;
}
