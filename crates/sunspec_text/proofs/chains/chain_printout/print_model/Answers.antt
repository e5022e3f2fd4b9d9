use Rattle.std.proofs.Common.{List, ◌++◌, ap, ◌∙◌, map}
use Rattle.std.specs.List.{flat_map}
use Rattle.sun_chain.specs.Points.{Named, seen}
use Rattle.sunspec_text.specs.Chains.ChainText.{model_line, point_line}
use Rattle.script_text.proofs.Got.{appends_before}
use Rattle.sunspec_text.proofs.chains.chain_printout.print_model.Goals as goal

pub returns : goal.returns
returns g c =
    appends_before c.print_points.result _ _ _ (model_line c.args.model.now) (flat_map point_line (map seen c.deref.result.now)) _
    c.in_ok-print_model_line.ensures c.print_points.ensures
    (ap (λ (points : List Named). model_line c.args.model.now ++ flat_map point_line points) (ap (map seen) c.deref.ensures.value ∙ c.in_ok-points.ensures.points))
