use Rattle.std.proofs.Common.{◌≤◌, take, length, Ok}
use Rattle.table_audit.specs.declared.differences.TheConstants.{MOST}
use Rattle.table_audit.specs.Looking.{Finds}
use Rattle.table_audit.specs.Meters.{ReportsEach}
use Rattle.table_audit.proofs.meters.audit_rows_of.Given as goal

abbrev pub invariant-loop-index : goal.invariant-loop-index
invariant-loop-index g l = record {
  finds : Finds g.S.Store l.fn.conn l.conn (Ok l.findings) (λ content findings. ReportsEach (take l.index l.rows) content findings l.spans.items);
  few : length l.findings.first.items ≤ MOST;
}
