use Rattle.std.proofs.Common.{[], reverse, take}
use Rattle.meter_journal.specs.Audit.Going.{IsSoundProgress, HasGone}
use Rattle.table_audit.proofs.lawful.go_over.Given as goal

abbrev pub invariant-loop-index : goal.invariant-loop-index
invariant-loop-index l = record {
  sound : IsSoundProgress l.meter l.progress;
  gone : HasGone l.meter (reverse (take l.index l.rows)) [] l.progress;
}
