use Rattle.std.proofs.Common.{List, ℕ, inl, sym, subst}
use Rattle.point_list.specs.Lists.{SpellsList}
use Rattle.point_list.specs.declared.point.ListedPoint.{ListedPoint}
use Rattle.script_run.specs.Replaying.Events.{EventPrints, IsListOf, ListPrints, list_event}
use Rattle.script_run.proofs.ReplayingLemmas.Replies.{carried_as}
use Rattle.script_run.proofs.replaying.events.feed_list.Goals as goal

pub returns-in-Ok-new : goal.returns-in-Ok-new
returns-in-Ok-new g c = λ past stands.
    let planned = c.in-Ok-new.planned in
    let text : List ℕ → Type 0 = λ bytes. SpellsList bytes planned.points in
    let points : List ListedPoint → Type 0 = λ list. SpellsList c.as_slice.result.now list in
    let is : IsListOf c.args.list.now.text planned = record {
      points = subst text c.as_slice.ensures (subst points (sym c.in-Ok-new.ensures.points) c.in-Ok.ensures.list);
      planned = c.in-Ok-new.ensures.planned;
    } in
    inl (carried_as (λ now printed next. EventPrints now c.args.at (list_event c.args.list.now planned) printed next)
    (λ now printed next. ListPrints now c.args.at c.args.list.now printed next) past _ _ _ _ _ (λ now printed next prints. inl (planned, is, prints))
    (c.feed.ensures past stands))
