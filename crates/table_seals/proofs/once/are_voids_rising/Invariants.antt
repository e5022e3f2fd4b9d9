use Rattle.std.proofs.Common.{◌≡◌, map, length}
use Rattle.table_seals.specs.Reading.{are_rising}
use Rattle.table_seals.proofs.once.are_voids_rising.Given as goal

abbrev pub invariant-loop-void : goal.invariant-loop-void
invariant-loop-void l = are_rising (map (λ void. void.place) l.voids) ≡ are_rising (map (λ void. void.place) l.rest)

abbrev pub decreases-loop-void : goal.decreases-loop-void
decreases-loop-void l = length l.rest
