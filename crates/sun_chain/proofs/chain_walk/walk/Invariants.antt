use Rattle.std.proofs.Common.{◌-◌, length}
use Rattle.sun_chain.specs.Image.{word_in}
use Rattle.sun_chain.specs.Chain.{IsLawful}
use Rattle.sun_chain.proofs.chain_walk.walk.Given as goal

abbrev pub invariant-loop-models : goal.invariant-loop-models
invariant-loop-models l = IsLawful (word_in l.image) l.base l.models.items l.address

abbrev pub decreases-loop-models : goal.decreases-loop-models
decreases-loop-models l = 65 - length l.models.items
