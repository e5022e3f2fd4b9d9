use Rattle.std.proofs.Common.{◌≡◌, drop}
use Rattle.table_audit.specs.Lawful.{rises}
use Rattle.table_audit.proofs.lawful.first_astray.Given as goal

abbrev pub invariant-loop-void : goal.invariant-loop-void
invariant-loop-void l = rises 1 l.last l.voids ≡ rises l.after l.last (drop l.void-index l.voids)
