use Rattle.std.proofs.Common.{◌≡◌, map, length}
use Rattle.table_seals.specs.Reading.{are_apart}
use Rattle.table_seals.specs.Sealed.{sealed_of}
use Rattle.table_seals.proofs.once.are_meters_apart.Given as goal

abbrev pub invariant-loop-seal : goal.invariant-loop-seal
invariant-loop-seal l = are_apart (map (λ seal. seal.meter) (map sealed_of l.seals)) ≡ are_apart (map (λ seal. seal.meter) (map sealed_of l.rest))

abbrev pub decreases-loop-seal : goal.decreases-loop-seal
decreases-loop-seal l = length l.rest
