use Rattle.std.proofs.Common.{◌≡◌, ap, sym, ◌∙◌, take, arith}
use Rattle.std.specs.List.{flat_map}
use Rattle.std.proofs.lemmas.List.{take_all}
use Rattle.std.proofs.lemmas.List.Folds.{flat_map-map}
use Rattle.sun_chain.specs.Points.{seen}
use Rattle.sunspec_text.specs.Chains.ChainText.{point_line}
use Rattle.script_text.proofs.Got.{appends_this}
use Rattle.sunspec_text.proofs.chains.chain_printout.print_points.Goals as goal

pub returns : goal.returns
returns g c =
    let all : take c.loop-point.point-index c.args.points.now ≡ c.args.points.now = take_all _ _ (omega arith) in
    appends_this _ _ _ _
    (ap (flat_map (λ point. point_line (seen point))) all ∙ sym (flat_map-map point_line seen c.args.points.now))
    c.loop-point.invariant
