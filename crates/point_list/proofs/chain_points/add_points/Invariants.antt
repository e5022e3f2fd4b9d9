use Rattle.std.proofs.Common.{◌≡◌, ◌++◌, map, take}
use Rattle.sun_chain.specs.Points.{seen}
use Rattle.point_list.specs.ChainPoints.{listed}
use Rattle.point_list.proofs.chain_points.add_points.Given as goal

abbrev pub invariant-loop-point : goal.invariant-loop-point
invariant-loop-point l = l.points.items ≡ l.initial.points.items ++ map (λ point. listed l.place l.id (map seen l.found) (seen point)) (take l.point-index l.found)
