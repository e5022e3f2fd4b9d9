use Rattle.std.proofs.Common.{◌<◌, ◌≤◌, length}
use Rattle.meter_journal.specs.Audit.Going.{IsSoundProgress}
use Rattle.table_audit.specs.declared.differences.TheConstants.{MOST}
use Rattle.table_audit.proofs.lawful.print_refused.Given as goal

abbrev pub invariant-loop-index : goal.invariant-loop-index
invariant-loop-index l = record {
  sound : IsSoundProgress l.meter l.progress;
  reported : 0 < length l.found.first.items;
  few : length l.found.first.items ≤ MOST;
}
