use Rattle.std.proofs.Common.{◌≡◌, drop}
use Rattle.std.specs.List.{list_any}
use Rattle.table_audit.specs.PollDifferences.{began}
use Rattle.table_audit.proofs.poll_differences.began_anywhere.Given as goal

abbrev pub invariant-loop-row : goal.invariant-loop-row
invariant-loop-row l = list_any (began l.outcome) l.polls ≡ list_any (began l.outcome) (drop l.row-index l.polls)
