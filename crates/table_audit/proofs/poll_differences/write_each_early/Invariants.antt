use Rattle.std.proofs.Common.{◌≡◌, ◌++◌, drop}
use Rattle.table_audit.specs.PollDifferences.{each_of, early}
use Rattle.table_audit.proofs.poll_differences.write_each_early.Given as goal

abbrev pub invariant-loop-row : goal.invariant-loop-row
invariant-loop-row l = l.found.items ++ each_of (early l.polls) (drop l.row-index l.rows) ≡ l.initial.found.items ++ each_of (early l.polls) l.rows
