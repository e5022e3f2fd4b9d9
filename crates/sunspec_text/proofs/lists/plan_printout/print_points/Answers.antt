use Rattle.std.proofs.Common.{◌≡◌, ◌++◌, ◌∙◌, get_or, refl, subst, arith}
use Rattle.std.proofs.lemmas.List.{length-map}
use Rattle.read_plan.specs.Items.{item_of}
use Rattle.read_plan.specs.PlannedReads.{IsFirstHolding, read_run, read_runs}
use Rattle.read_plan.specs.declared.run.Run.{Run}
use Rattle.sunspec_text.specs.Lists.PlanText.{PlacedPoint, point_line}
use Rattle.script_text.proofs.Got.{appends_both}
use Rattle.sunspec_text.proofs.ListsLemmas.PlanLines.{item_at, points_next, start_at}
use Rattle.sunspec_text.proofs.lists.plan_printout.print_points.Goals as goal

pub print_point-requires : goal.print_point-requires
print_point-requires g c =
    let first = c.place.ensures.first (item_of c.args.points.now c.index-points-index.result) in
    omega (arith, first.within, length-map c.args.plan.now.reads read_run, c.requires.few)

pub loop-index-preserved : goal.loop-index-preserved
loop-index-preserved g c =
    let item : Run = item_of c.args.points.now c.index-points-index.result in
    let same : get_or c.args.plan.now.items c.loop-index.index item ≡ item =
    item_at c.args.points.now (item_of c.args.points.now) c.args.plan.now.items c.loop-index.index c.index-points-index.result (omega arith) c.requires.items c.index-points-index.is in
    let start = start_at c.args.points.now c.args.plan.now.starts c.loop-index.index c.index-points-index.result (omega arith) c.requires.starts c.index-points-index.is in
    let placed : PlacedPoint = record { point = c.index-points-index.result; read = c.place.result.read; offset = c.place.result.offset } in (
      c.loop-index.invariant.0 ++ point_line placed,
      appends_both _ _ _ c.loop-index.invariant.0 (point_line placed) _ c.loop-index.invariant.1 c.in_ok-print_point.ensures refl,
      points_next c.args.points.now c.args.points.now c.args.plan.now.reads c.loop-index.invariant.0 c.loop-index.index placed (omega arith) c.index-points-index.is
          c.loop-index.invariant.2
          (record {
            first = subst (λ (contained : Run). IsFirstHolding (read_runs c.args.plan.now.reads) contained c.place.result.read) same (c.place.ensures.first item);
            offset = λ d. c.place.ensures.offset d ∙ start;
          }),
    )
