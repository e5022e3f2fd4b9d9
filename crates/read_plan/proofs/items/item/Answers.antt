use Rattle.std.proofs.Common.{◌≡◌, ◌∙◌, ap, sym}
use Rattle.std.specs.Option.{option_copied}
use Rattle.point_list.specs.declared.point.PointScale.TheVariants.{Named}
use Rattle.read_plan.specs.Items.{joined, point_run}
use Rattle.read_plan.proofs.ScaleLemmas.{item-found, item-missing}
use Rattle.read_plan.proofs.items.item.Goals as goal

pub returns-in-Some : goal.returns-in-Some
returns-in-Some c points right =
    let same : c.run_of_point-run.result ≡ point_run c.args.point.now = c.run_of_point-run.ensures in
    c.join.ensures ∙ ap (λ run. joined run c.in-Some.scale.now) same
    ∙ sym (item-found points c.args.runs.now right c.args.point.now c.as_bytes.result.now (c.in-Named.is ∙ ap Named (sym c.as_bytes.ensures.bytes)) c.in-Some.scale.now (sym c.get.ensures.value ∙ ap option_copied c.in-Some.is))

pub returns-in-None : goal.returns-in-None
returns-in-None c points right =
    c.run_of_point-run.ensures
    ∙ sym (item-missing points c.args.runs.now right c.args.point.now c.as_bytes.result.now (c.in-Named.is ∙ ap Named (sym c.as_bytes.ensures.bytes)) (sym c.get.ensures.value ∙ ap option_copied c.in-None.is))
