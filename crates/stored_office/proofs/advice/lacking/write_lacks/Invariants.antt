use Rattle.std.proofs.Common.{◌≡◌, drop}
use Rattle.stored_office.specs.Advice.Lacking.{with_lacks}
use Rattle.stored_office.proofs.advice.lacking.write_lacks.Given as goal

abbrev pub invariant-loop-lack : goal.invariant-loop-lack
invariant-loop-lack l = with_lacks (drop l.lack-index l.lacks) l.text.items ≡ with_lacks l.lacks l.fn.text.items
