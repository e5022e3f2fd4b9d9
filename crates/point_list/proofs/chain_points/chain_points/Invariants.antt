use Rattle.std.proofs.Common.{◌≡◌, take}
use Rattle.sun_chain.specs.Chain.{models_of, words_of}
use Rattle.point_list.specs.ChainPoints.{points_from}
use Rattle.point_list.proofs.chain_points.chain_points.Given as goal

abbrev pub invariant-loop-index : goal.invariant-loop-index
invariant-loop-index l = l.points.items ≡ points_from (words_of l.chain) 1 (take l.index (models_of l.chain))
