use Rattle.std.proofs.Common.{take}
use Rattle.std.specs.List.{flat_map}
use Rattle.std.specs.Io.KnownBytes.{Appends}
use Rattle.sun_chain.specs.Points.{seen}
use Rattle.sunspec_text.specs.Chains.ChainText.{point_line}
use Rattle.sunspec_text.proofs.chains.chain_printout.print_points.Given as goal

abbrev pub invariant-loop-point : goal.invariant-loop-point
invariant-loop-point g l = Appends (g.W.Write.contents l.fn.output) (g.W.Write.contents l.output) (flat_map (λ point. point_line (seen point)) (take l.point-index l.points))
