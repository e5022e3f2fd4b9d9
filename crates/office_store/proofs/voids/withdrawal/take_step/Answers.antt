use Rattle.std.proofs.Common.{◌≡◌, ℕ, List, [], ◌∷◌, ◌++◌, Ok, refl, sym, ap, subst, ◌∙◌, append-nil, append_assoc}
use Rattle.std.specs.List.{AllByRecursion}
use Rattle.sqlite.specs.declared.error.Error.{Error}
use Rattle.sqlite.specs.Held.{state}
use Rattle.interval_core.specs.declared.shares.Share.{Share}
use Rattle.interval_core.specs.Share.{shares_of}
use Rattle.store_tables.specs.Steps.{Steps}
use Rattle.store_tables.proofs.StepLemmas.{steps_then, answered}
use Rattle.office_store.specs.Intervals.Rows.{IsSoundShare}
use Rattle.office_store.specs.Voids.Withdrawal.{TakesShares}
use Rattle.office_store.proofs.IntervalsLemmas.Loops.{sound_shares}
use Rattle.office_store.proofs.VoidsLemmas.Withdrawing.{nothing_taken, taken_then}
use Rattle.office_store.proofs.voids.withdrawal.take_step.Goals as goal

pub loop-share-init : goal.loop-share-init
loop-share-init g c = record {
  can = tt;
  finite = tt;
  reference = refl;
  sound = subst (AllByRecursion IsSoundShare) (sym c.of-shares.ensures) (sound_shares c.shares_add_up.ensures c.args.step.now c.requires.forward c.requires.energy c.requires.till);
  front = [];
  whole = c.of-shares.ensures;
  taken = nothing_taken c.args.meter.now (state g.S.Store c.args.tx.now.conn.now);
}

pub loop-share-preserved : goal.loop-share-preserved
loop-share-preserved g c =
    let share : Share = c.in-Some.share in
    let rest : List Share = c.next.new.self in
    let front : List Share = c.loop-share.invariant.front in
    let meter : List ℕ = c.args.meter.now in
    let left : c.loop-share.shares ≡ share ∷ rest = c.in-Some.ensures.steps in
    let old = state g.S.Store c.args.tx.now.conn.now in
    let new = state g.S.Store c.take_share.new.tx.conn.now in
    record {
      can = tt;
      finite = tt;
      reference = c.take_share.ensures.same_reference ∙ c.loop-share.invariant.reference;
      sound = (subst (AllByRecursion IsSoundShare) left c.loop-share.invariant.sound).1;
      front = front ++ share ∷ [];
      whole = append_assoc front (share ∷ []) rest ∙ (ap (λ (ss : List Share). front ++ ss) (sym left) ∙ c.loop-share.invariant.whole);
      taken = answered old new c.in_ok-take_share.field-0 tt _
          (steps_then old (state g.S.Store c.loop-share.tx.conn.now) new tt (Ok c.in_ok-take_share.field-0) (TakesShares meter front) (TakesShares meter (share ∷ [])) (TakesShares meter (front ++ share ∷ []))
          c.loop-share.invariant.taken c.in_ok-take_share.ensures.does (taken_then meter front share));
    }

pub returns-clause-does : goal.returns-clause-does
returns-clause-does g c =
    let none : c.loop-share.shares ≡ [] = c.in_default.ensures.steps.0 in
    let all : c.loop-share.invariant.front ≡ shares_of c.args.step.now = sym (append-nil _) ∙ (ap (λ (ss : List Share). c.loop-share.invariant.front ++ ss) (sym none) ∙ c.loop-share.invariant.whole) in
    subst (λ shares. Steps {X = Unit {0}} {E = Error} (state g.S.Store c.args.tx.now.conn.now) (state g.S.Store c.loop-share.tx.conn.now) (Ok tt) (TakesShares c.args.meter.now shares)) all c.loop-share.invariant.taken
