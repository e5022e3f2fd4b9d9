use Rattle.std.proofs.Common.{◌≡◌, true, false, arith, subst, ◌∙◌}
use Rattle.office_core.specs.Settling.Settling.{MayReach}
use Rattle.office_core.proofs.SettlingLemmas.SettledSlots.{next_slot, goes_further, keeps_all, goes_to_end}
use Rattle.office_books.proofs.Moving.{consults_then}
use Rattle.office_core.proofs.Consulting.{reads_failed}
use Rattle.office_core.proofs.settling.slots.settle_slots.Goals as goal

pub returns-in_err-settle_slot-clause-quiet : goal.returns-in_err-settle_slot-clause-quiet
returns-in_err-settle_slot-clause-quiet g c = λ number stood reach none.
    let here = c.loop-i.invariant.0 number stood reach in
    let next =
    next_slot number c.args.moment c.args.event.now c.loop-i.i c.loop-i.slots stood c.index-slots-i.result
    (omega (arith, c.loop-i-test.true, c.loop-i.auto.slots)) c.index-slots-i.is here.0 in
    let quiet =
    c.in_err-settle_slot.ensures.quiet number next.slot (subst (λ y. MayReach c.args.moment y next.slot) c.index-slots-i.is next.here) (next.quiet none) in
    let never : false ≡ true = quiet.ok in absurd (cc)

pub returns-in_err-settle_slot-clause-reads : goal.returns-in_err-settle_slot-clause-reads
returns-in_err-settle_slot-clause-reads g c =
    reads_failed _ _ _ _ _ _ c.loop-i.invariant.1 c.in_err-settle_slot.ensures.reads c.from_residual.ensures.1

pub loop-i-preserved : goal.loop-i-preserved
loop-i-preserved g c = (
  λ number stood reach.
      let here = c.loop-i.invariant.0 number stood reach in
      goes_further _ _ _ _ _ _ number c.args.moment c.args.event.now c.loop-i.i c.loop-i.slots stood _ _ _ c.index-slots-i.result c.settle_slot.new.slot
      (omega (arith, c.loop-i-test.true, c.loop-i.auto.slots)) c.index-slots-i.is here.0 here.1 here.2
      (λ slot k. c.in_ok-settle_slot.ensures.keeps number slot (subst (λ y. MayReach c.args.moment y slot) c.index-slots-i.is k))
      (λ slot k. c.in_ok-settle_slot.ensures.adds number slot (subst (λ y. MayReach c.args.moment y slot) c.index-slots-i.is k))
      (λ slot k none same.
      let quiet = c.in_ok-settle_slot.ensures.quiet number slot (subst (λ y. MayReach c.args.moment y slot) c.index-slots-i.is k) none in
      (quiet.books ∙ same.0, quiet.draft ∙ same.1))
      c.loop-i.invariant.1.keeps.facts c.in_ok-settle_slot.ensures.reads.goes.clean,
  consults_then _ _ _ _ _ c.loop-i.invariant.1 c.in_ok-settle_slot.ensures.reads,
)

pub returns-clause-keeps : goal.returns-clause-keeps
returns-clause-keeps g c = λ number stood reach.
    (keeps_all number c.args.moment c.args.event.now c.loop-i.i c.loop-i.slots stood (omega (arith, c.loop-i-test.false, c.loop-i.auto.slots))
    (c.loop-i.invariant.0 number stood reach).0).0

pub returns-clause-adds : goal.returns-clause-adds
returns-clause-adds g c = λ number stood reach.
    let here = c.loop-i.invariant.0 number stood reach in
    let all =
    (keeps_all number c.args.moment c.args.event.now c.loop-i.i c.loop-i.slots stood (omega (arith, c.loop-i-test.false, c.loop-i.auto.slots)) here.0).1 in
    goes_to_end _ _ number c.args.moment c.args.event.now _ stood _ _ all here.1
