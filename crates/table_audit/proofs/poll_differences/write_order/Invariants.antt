use Rattle.std.proofs.Common.{◌≡◌, ◌++◌, drop}
use Rattle.table_audit.specs.PollDifferences.{order_of}
use Rattle.table_audit.proofs.poll_differences.write_order.Given as goal

abbrev pub invariant-loop-row : goal.invariant-loop-row
invariant-loop-row l = l.found.items ++ order_of l.next l.last (drop l.row-index l.rows) ≡ l.initial.found.items ++ order_of l.first l.last l.rows
