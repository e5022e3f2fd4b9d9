use Rattle.std.proofs.Common.{◌≡◌, ◌++◌, drop}
use Rattle.table_audit.specs.Spans.{overlaps}
use Rattle.table_audit.proofs.spans.append_each.Given as goal

abbrev pub invariant-loop-index : goal.invariant-loop-index
invariant-loop-index l = l.found.items ++ overlaps (drop l.index l.spans) ≡ l.initial.found.items ++ overlaps l.spans
