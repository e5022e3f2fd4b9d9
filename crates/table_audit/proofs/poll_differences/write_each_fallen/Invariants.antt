use Rattle.std.proofs.Common.{◌≡◌, ◌++◌, drop}
use Rattle.table_audit.specs.PollDifferences.{fallen_from}
use Rattle.table_audit.proofs.poll_differences.write_each_fallen.Given as goal

abbrev pub invariant-loop-row : goal.invariant-loop-row
invariant-loop-row l = l.found.items ++ fallen_from l.latest (drop l.row-index l.rows) ≡ l.initial.found.items ++ fallen_from l.since l.rows
