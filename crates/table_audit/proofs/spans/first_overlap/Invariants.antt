use Rattle.std.proofs.Common.{◌≡◌, drop}
use Rattle.table_audit.specs.Spans.{first_overlap}
use Rattle.table_audit.proofs.spans.first_overlap.Given as goal

abbrev pub invariant-loop-later : goal.invariant-loop-later
invariant-loop-later l = first_overlap l.earlier l.spans ≡ first_overlap l.earlier (drop l.later-index l.spans)
