-- Lemmas about queries in sequence, each made only if the query before it succeeded. A refusal of
-- one query is the refusal of all, and the guarantees of a single query also hold for the sequence.
use Rattle.std.proofs.Common.{◌≡◌, inl, inr, true, Option, Some, None, refl, sym, ap, subst, ◌∙◌}
use Rattle.std.specs.Prelude.{Result, Ok, Err}
use Rattle.office_events.specs.declared.refusals.Refusal.{Refusal}
use Rattle.office_events.specs.declared.refusals.Refusal.TheVariants as refusal
use Rattle.office_books.specs.Ledgers.{Ledger}
use Rattle.office_books.specs.declared.failures.Failures.{Failures}
use Rattle.office_core.specs.Asking.{CountsAsked, IsFound, OnlyAsks, or_not_found}
use Rattle.office_core.specs.Failing.{IsOutside}
use Rattle.office_core.specs.Several.{Keeps}
use Rattle.office_core.specs.Standing.{is_stopped}
use Rattle.office_core.specs.Taking.{failures_of}
use Rattle.office_core.specs.declared.office.Office.{Office}
use Rattle.office_core.proofs.Taken.{outside_more}

-- Lemmas on the results of several queries in sequence: if one of them is refused, the combined
-- query is refused for the same reason.

abbrev value_of : {T : Type 0} → Result T Refusal → Option T
value_of (Ok x) = Some x
value_of (Err why) = None

abbrev reason_of : {T : Type 0} → Result T Refusal → Refusal
reason_of (Ok x) = refusal.NotFound
reason_of (Err why) = why

abbrev refusal_as : {T : Type 0} → Refusal → Result T Refusal
refusal_as why = Err why

value_or : {T : Type 0} (found : Option T) → value_of (or_not_found found) ≡ found
value_or None = refl
value_or (Some x) = refl

reason_or : {T : Type 0} (found : Option T) → reason_of (or_not_found found) ≡ refusal.NotFound
reason_or None = refl
reason_or (Some x) = refl

pub found_ok : {T : Type 0} (m : Type 0) (found : Option T) (before after : Failures) (x : T) → IsFound m found before after (Ok x)
    → (found ≡ Some x) × (after ≡ before)
found_ok m found before after x (inl is) = (sym (value_or found) ∙ ap value_of (sym is.0), is.1)
found_ok m found before after x (inr fails) = absurd fails

pub found_so : {T : Type 0} (m : Type 0) (found : Option T) (before after : Failures) (x : T) → found ≡ Some x → after ≡ before
    → IsFound m found before after (Ok x)
found_so m found before after x is same = inl (ap or_not_found (sym is), same)

-- Suppose that a value `f` in the store is needed to find a second value `g`. If the query for `f`
-- is refused, then the combined query for `g` is refused for the same reason.
pub refused_on : {T U : Type 0} (few many : Type 0) (f : Option T) (g : Option U) (before mid after : Failures) (why : Refusal) → (few → many)
    → (f ≡ None → g ≡ None) → mid ≡ before → IsFound few f mid after (Err why) → IsFound many g before after (Err why)
refused_on {T} {U} few many f g before mid after why more nothing same (inl is) =
    let none : f ≡ None = sym (value_or f) ∙ ap value_of (sym is.0) in
    let not_found : why ≡ refusal.NotFound = ap reason_of is.0 ∙ reason_or f in
    let e : refusal_as {T = U} why ≡ or_not_found g = ap (refusal_as {T = U}) not_found ∙ ap or_not_found (sym (nothing none)) in
    inl (e, is.1 ∙ same)
refused_on few many f g before mid after why more nothing same (inr fails) =
    inr (subst (λ was. IsOutside many was after why) same (outside_more few many mid after why more fails))

-- Lemmas on the program's state after several queries in sequence: the guarantees of a single query
-- also hold for the sequence.

module _ {B : Type 0} (ledger : B → Ledger) where
  pub unasked : (a : Office B) → Keeps ledger a a
  unasked a = record {
    stands = λ past stands. stands;
    keeps = record { facts = λ known holds. holds; left = λ left may. may };
    notes = refl;
    outgoing = refl;
    stays = refl;
    failures = refl;
    clean = λ clean. clean;
    zone = refl;
  }

  pub asked : {T : Type 0} (a b : Office B) (x : T) → OnlyAsks ledger a b (Ok x) → Keeps ledger a b
  asked a b x asks = record {
    stands = asks.stands;
    keeps = asks.keeps;
    notes = asks.notes;
    outgoing = asks.outgoing;
    stays = asks.stays;
    failures = asks.counts;
    clean = asks.clean;
    zone = asks.zone;
  }

  pub kept_on : (a b c : Office B) → Keeps ledger a b → Keeps ledger b c → Keeps ledger a c
  kept_on a b c first more = record {
    stands = λ past stands. more.stands past (first.stands past stands);
    keeps = record {
      facts = λ known holds. more.keeps.facts known (first.keeps.facts known holds);
      left = λ left may. more.keeps.left left (first.keeps.left left may);
    };
    notes = more.notes ∙ first.notes;
    outgoing = more.outgoing ∙ first.outgoing;
    stays = more.stays ∙ first.stays;
    failures = more.failures ∙ first.failures;
    clean = λ clean. first.clean (more.clean clean);
    zone = more.zone ∙ first.zone;
  }

  -- If a query follows other successful queries, then all of them together have the same effect on
  -- the program's state as the last query alone.
  pub asked_after : {T : Type 0} (a b c : Office B) (result : Result T Refusal) → Keeps ledger a b → OnlyAsks ledger b c result → OnlyAsks ledger a c result
  asked_after a b c result first more = record {
    stands = λ past stands. more.stands past (first.stands past stands);
    keeps = record {
      facts = λ known holds. more.keeps.facts known (first.keeps.facts known holds);
      left = λ left may. more.keeps.left left (first.keeps.left left may);
    };
    notes = more.notes ∙ first.notes;
    outgoing = more.outgoing ∙ first.outgoing;
    stopped = (λ is. sym first.stays ∙ more.stopped.0 is, λ is. more.stopped.1 (first.stays ∙ is));
    stays = more.stays ∙ first.stays;
    counts = subst (λ was. CountsAsked was (failures_of ledger c) result) first.failures more.counts;
    clean = λ clean. first.clean (more.clean clean);
    zone = more.zone ∙ first.zone;
  }

  -- If the program answered a query with `Ok`, then the program had not stopped: no earlier failure
  -- had made it refuse all events.
  pub goes_on : {T : Type 0} (a b : Office B) (x : T) → OnlyAsks ledger a b (Ok x) → is_stopped a ≡ true → ⊥
  goes_on a b x asks stopped = let e = asks.stopped.1 stopped in cc e

  -- If the running program's state is unchanged, then the guarantees of a query hold for any `Ok`
  -- result.
  pub answered_as : {U : Type 0} (a b : Office B) (y : U) → (is_stopped a ≡ true → ⊥) → Keeps ledger a b → OnlyAsks ledger a b (Ok y)
  answered_as a b y goes kept = record {
    stands = kept.stands;
    keeps = kept.keeps;
    notes = kept.notes;
    outgoing = kept.outgoing;
    stopped = (λ is. absurd (cc is), λ is. absurd (goes is));
    stays = kept.stays;
    counts = kept.failures;
    clean = kept.clean;
    zone = kept.zone;
  }

  -- If memory runs out after successful queries, then the refusal `Memory` (out of memory)
  -- satisfies the guarantees of a query (the program's state is unchanged).
  pub without_memory : {U : Type 0} (a b : Office B) → (is_stopped a ≡ true → ⊥) → Keeps ledger a b
      → OnlyAsks {T = U} ledger a b (Err refusal.Memory)
  without_memory a b goes kept = record {
    stands = kept.stands;
    keeps = kept.keeps;
    notes = kept.notes;
    outgoing = kept.outgoing;
    stopped = (λ is. absurd (cc is), λ is. absurd (goes is));
    stays = kept.stays;
    counts = inr (tt, kept.failures);
    clean = kept.clean;
    zone = kept.zone;
  }

  -- If a query is refused, then its effect on the program's state depends only on the reason for
  -- the refusal.
  pub refused_as : {T U : Type 0} (a b : Office B) (why : Refusal) → OnlyAsks {T = T} ledger a b (Err why) → OnlyAsks {T = U} ledger a b (Err why)
  refused_as {T} {U} a b why asks = record {
    stands = asks.stands;
    keeps = asks.keeps;
    notes = asks.notes;
    outgoing = asks.outgoing;
    stopped = (
      λ is. asks.stopped.0 (ap (refusal_as {T = T}) (ap reason_of is)),
      λ is. ap (refusal_as {T = U}) (ap reason_of (asks.stopped.1 is)),
    );
    stays = asks.stays;
    counts = asks.counts;
    clean = asks.clean;
    zone = asks.zone;
  }

  -- If a query succeeds, then its effect on the program's state does not depend on its result.
  pub now_as : {T U : Type 0} (a b : Office B) (x : T) (y : U) → OnlyAsks ledger a b (Ok x) → OnlyAsks ledger a b (Ok y)
  now_as a b x y asks = answered_as a b y (goes_on a b x asks) (asked a b x asks)
