use Rattle.std.proofs.Common.{◌≡◌, ◌++◌, drop}
use Rattle.table_audit.specs.PollDifferences.{each_of, unread_outcome}
use Rattle.table_audit.proofs.poll_differences.write_unread_outcomes.Given as goal

abbrev pub invariant-loop-row : goal.invariant-loop-row
invariant-loop-row l = l.found.items ++ each_of unread_outcome (drop l.row-index l.rows) ≡ l.initial.found.items ++ each_of unread_outcome l.rows
