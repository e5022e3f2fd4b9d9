use Rattle.std.proofs.Common.{◌≡◌, ◌++◌, drop}
use Rattle.table_audit.specs.PollDifferences.{each_of, unread_poll}
use Rattle.table_audit.proofs.poll_differences.write_unread_polls.Given as goal

abbrev pub invariant-loop-row : goal.invariant-loop-row
invariant-loop-row l = l.found.items ++ each_of unread_poll (drop l.row-index l.rows) ≡ l.initial.found.items ++ each_of unread_poll l.rows
