use Rattle.std.proofs.Common.{◌≡◌, drop}
use Rattle.table_audit.specs.Lawful.{are_timely}
use Rattle.table_audit.proofs.lawful.first_early.Given as goal

abbrev pub invariant-loop-void : goal.invariant-loop-void
invariant-loop-void l = are_timely l.entries l.voids ≡ are_timely l.entries (drop l.void-index l.voids)
