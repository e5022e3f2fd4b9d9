use Rattle.std.proofs.Common.{◌≡◌, drop}
use Rattle.run_http.specs.Status.Status.LackingText as text
use Rattle.run_http.proofs.status.status.lacking.write_more_lacks.Given as goal

abbrev pub invariant-loop-lack : goal.invariant-loop-lack
invariant-loop-lack l = text.with_more_lacks l.text.items (drop l.lack-index l.lacks) ≡ text.with_more_lacks l.initial.text.items l.lacks
