use Rattle.std.proofs.Common.{◌<◌, ◌≡◌, length, get_or}
use Rattle.std.proofs.lemmas.List.{get_or_default}
use Rattle.read_plan.proofs.BeginningLemmas.{beginnings-push, beginnings-skip}
use Rattle.read_plan.proofs.PlanLemmas.{anything}
use Rattle.read_plan.proofs.beginnings.beginnings.Goals as goal
use Rattle.read_plan.proofs.beginnings.beginnings.Goals.{then-not-is_reached+in_ok-push, else-not-is_reached}

pub loop-item-preserved : goal.loop-item-preserved
loop-item-preserved c =
    let items = c.args.items.now in
    let n = c.loop-item.item-index in
    let within : n < length items = c.loop-item-test.true in
    let x = get_or items n anything in
    let is : x ≡ get_or items n x = get_or_default items n anything x within in
    elim c.if-not-is_reached.branch [
      | then-not-is_reached+in_ok-push w ↦
          let pushed = w.in_ok-push.ensures.items in
          let beyond = rw c.deref.ensures.value at w.if-not-is_reached.ensures.beyond in
          rw (w.found-is, pushed)
          (beginnings-push items c.loop-item.found.items n x within is c.requires.ordered (c.requires.readable n anything within) c.loop-item.invariant beyond)
      | else-not-is_reached w ↦
          let reached = rw c.deref.ensures.value at w.if-not-is_reached.ensures.reached in
          rw w.found-is (beginnings-skip items c.loop-item.found.items n x within is c.loop-item.invariant reached)
    ]
