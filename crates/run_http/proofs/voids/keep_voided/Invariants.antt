use Rattle.std.proofs.Common.{◌≡◌, ◌++◌, take}
use Rattle.run_http.specs.Voids.{voided_in}
use Rattle.run_http.proofs.voids.keep_voided.Given as goal

abbrev pub invariant-loop-entry : goal.invariant-loop-entry
invariant-loop-entry l = l.kept.items ≡ l.initial.kept.items ++ voided_in (take l.entry-index l.piece)
