use Rattle.std.proofs.Common.{◌≡◌, take}
use Rattle.std.specs.List.{filter}
use Rattle.table_seals.specs.Notes.{is_since}
use Rattle.table_seals.specs.Sealed.{sealed_of}
use Rattle.table_seals.proofs.notes.voids_since.Given as goal

abbrev pub invariant-loop-void : goal.invariant-loop-void
invariant-loop-void l = l.found.items ≡ filter (is_since (sealed_of l.seal)) (take l.void-index l.voids)
