use Rattle.std.proofs.Common.{◌≤◌, length, Ok}
use Rattle.table_audit.specs.declared.differences.TheConstants.{MOST}
use Rattle.table_audit.specs.Looking.{Finds}
use Rattle.table_audit.proofs.PollRuns.{IsSoFar}
use Rattle.table_audit.proofs.polls.audit_runs.Given as goal

abbrev pub invariant-loop-run : goal.invariant-loop-run
invariant-loop-run g l = record {
  finds : Finds g.S.Store l.fn.conn l.conn (Ok l.last) (λ content _. IsSoFar l.last l.run l.since l.fn.findings l.findings content);
  few : length l.findings.first.items ≤ MOST;
}
