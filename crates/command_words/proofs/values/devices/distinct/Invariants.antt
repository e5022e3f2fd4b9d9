use Rattle.std.proofs.Common.{◌≡◌, drop, map}
use Rattle.command_words.specs.Values.Devices.{are_distinct, names_in}
use Rattle.command_words.proofs.values.devices.distinct.Given as goal

abbrev pub invariant-loop-index : goal.invariant-loop-index
invariant-loop-index l =
    are_distinct (names_in (map (λ part. part.now) (drop l.index l.parts)))
    ≡ are_distinct (names_in (map (λ part. part.now) l.parts))
