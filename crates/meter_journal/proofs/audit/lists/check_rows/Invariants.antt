use Rattle.std.proofs.Common.{reverse, take}
use Rattle.meter_journal.specs.Audit.Passing.{IsSoundCheck}
use Rattle.meter_journal.specs.Audit.Laws.{HasPassed}
use Rattle.meter_journal.proofs.audit.lists.check_rows.Given as goal

abbrev pub invariant-loop-index : goal.invariant-loop-index
invariant-loop-index l = record {
  sound : IsSoundCheck l.meter l.check;
  passed : HasPassed l.meter (reverse (take l.index l.rows)) l.check;
}
