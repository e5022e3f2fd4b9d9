use Rattle.std.proofs.Common.{◌≡◌, drop}
use Rattle.table_audit.specs.PollDifferences.{latest_start}
use Rattle.table_audit.proofs.poll_differences.latest_start.Given as goal

abbrev pub invariant-loop-row : goal.invariant-loop-row
invariant-loop-row l = latest_start l.latest (drop l.row-index l.rows) ≡ latest_start l.since l.rows
