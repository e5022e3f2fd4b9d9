use Rattle.std.proofs.Common.{◌≡◌, map, take, filter_map}
use Rattle.sun_chain.specs.Chain.{words_of}
use Rattle.sun_chain.specs.Points.{point_in, seen}
use Rattle.sun_chain.specs.Tables.{row_of}
use Rattle.sun_chain.proofs.chain.Chain.points.Given as goal

abbrev pub invariant-loop-entry : goal.invariant-loop-entry
invariant-loop-entry l = map seen l.points.items ≡ filter_map (point_in (words_of l.self) l.model) (map row_of (take l.entry-index l.entry-items))
