-- Properties of the slots (devices with their connections) while a device event is applied to them
-- one by one.
use Rattle.std.proofs.Common.{◌≡◌, ℕ, ◌+◌, ◌<◌, ◌≤◌, List, [], ◌∷◌, ◌++◌, length, take, get_or, map, slice_set, refl, sym, ap, ◌∙◌, subst, arith, zero, suc, append_assoc, add-one}
use Rattle.std.proofs.lemmas.List.{append-nil}
use Rattle.office_events.specs.declared.facts.Fact.{Fact}
use Rattle.office_events.specs.declared.events.Event.{Event}
use Rattle.office_books.specs.Sessions as sessions
use Rattle.office_books.specs.Sessions.{slot_after}
use Rattle.office_books.specs.History.{settled_by, with_outcomes, with_settled}
use Rattle.office_books.specs.Notes.{outcomes_notes, settled_notes}
use Rattle.office_core.specs.declared.settling.drafts.PendingWrite.{PendingWrite}
use Rattle.office_core.specs.declared.sessions.slots.Slot.{Slot}
use Rattle.office_core.specs.Settling.Drafts.{Grows}
use Rattle.office_core.specs.Sessions.Keeping.{KeepsSlot, KeepsSlots}
use Rattle.office_core.proofs.SettlingLemmas.Growing.{grows_like, grows_then, before_outcomes}
use Rattle.office_core.specs.Settling.Settling.{MayReach, MayReachAll, SettleNothing}

-- True if the event was applied to the given number of first device slots (devices with their
-- connections), and the other slots are unchanged.
abbrev pub FirstReached : (number at : ℕ) → Event → ℕ → List Slot → List sessions.Slot → Type 0
FirstReached number at e zero now kept = MayReachAll at now kept
FirstReached number at e (suc i) [] [] = Unit {0}
FirstReached number at e (suc i) (k ∷ ks) (l ∷ ls) = KeepsSlot k (slot_after number at [] e l) × FirstReached number at e i ks ls
FirstReached number at e (suc i) [] (l ∷ ls) = ⊥
FirstReached number at e (suc i) (k ∷ ks) [] = ⊥

-- The device slot (a device with its connection) with index `i`, and the effect of the event on
-- this slot.
pub record NextSlot (number at : ℕ) (e : Event) (i : ℕ) (now : List Slot) (kept : List sessions.Slot) (x : Slot) : Type 0 where
  pub slot : sessions.Slot
  pub here : MayReach at x slot
  pub next : (new : Slot) → KeepsSlot new (slot_after number at [] e slot) → FirstReached number at e (suc i) (slice_set now i new) kept
  pub facts : (facts : List Fact) → with_settled number at e (take (suc i) kept) facts
      ≡ with_outcomes at (settled_by number at e slot) (with_settled number at e (take i kept) facts)
  pub notes : (facts : List Fact) → settled_notes number at e (take (suc i) kept) facts
      ≡ settled_notes number at e (take i kept) facts ++ outcomes_notes at (settled_by number at e slot) (with_settled number at e (take i kept) facts)
  pub quiet : SettleNothing number at e kept → settled_by number at e slot ≡ []

pub next_slot : (number at : ℕ) (e : Event) (i : ℕ) (now : List Slot) (kept : List sessions.Slot) (x : Slot) → i < length now → x ≡ get_or now i x
    → FirstReached number at e i now kept → NextSlot number at e i now kept x
next_slot number at e i [] kept x less is keeps = absurd (omega arith)
next_slot number at e zero (k ∷ ks) [] x less is keeps = absurd keeps
next_slot number at e zero (k ∷ ks) (l ∷ ls) x less is keeps = record {
  slot = l;
  here = subst (λ y. MayReach at y l) (sym is) keeps.0;
  next = λ new after. (after, keeps.1);
  facts = λ facts. refl;
  notes = λ facts. append-nil (outcomes_notes at (settled_by number at e l) facts);
  quiet = λ none. none.0;
}
next_slot number at e (suc i) (k ∷ ks) [] x less is keeps = absurd keeps
next_slot number at e (suc i) (k ∷ ks) (l ∷ ls) x less is keeps =
    let rest = next_slot number at e i ks ls x (omega arith) is keeps.1 in
    record {
      slot = rest.slot;
      here = rest.here;
      next = λ new after. (keeps.0, rest.next new after);
      facts = λ facts. rest.facts (with_outcomes at (settled_by number at e l) facts);
      notes = λ facts.
          let first = with_outcomes at (settled_by number at e l) facts in
          ap (λ xs. outcomes_notes at (settled_by number at e l) facts ++ xs) (rest.notes first)
          ∙ sym (append_assoc (outcomes_notes at (settled_by number at e l) facts) _ _);
      quiet = λ none. rest.quiet none.1;
    }

-- If a device event was applied to every device slot (device with its connection) up to the last,
-- then it was applied to all slots.
pub keeps_all : (number at : ℕ) (e : Event) (i : ℕ) (now : List Slot) (kept : List sessions.Slot) → length now ≤ i
    → FirstReached number at e i now kept → KeepsSlots now (map (slot_after number at [] e) kept) × (take i kept ≡ kept)
keeps_all number at e zero [] [] less keeps = (tt, refl)
keeps_all number at e zero [] (l ∷ ls) less keeps = absurd keeps
keeps_all number at e zero (k ∷ ks) kept less keeps = absurd (omega arith)
keeps_all number at e (suc i) [] [] less keeps = (tt, refl)
keeps_all number at e (suc i) [] (l ∷ ls) less keeps = absurd keeps
keeps_all number at e (suc i) (k ∷ ks) [] less keeps = absurd keeps
keeps_all number at e (suc i) (k ∷ ks) (l ∷ ls) less keeps =
    let rest = keeps_all number at e i ks ls (omega arith) keeps.1 in
    ((keeps.0, rest.0), ap (λ xs. l ∷ xs) rest.1)

-- If an event was applied to the first `i` device slots (connections) and to the next slot, then it
-- was applied to the first `i + 1` slots.
pub goes_further : (holds mid : List Fact → Type 0) (clean later same changed : Type 0) (number at : ℕ) (e : Event) (i : ℕ) (now : List Slot) (kept : List sessions.Slot)
    (first draft new : PendingWrite) (x y : Slot) → i < length now → x ≡ get_or now i x
    → FirstReached number at e i now kept
    → Grows holds clean first draft (with_settled number at e (take i kept)) (settled_notes number at e (take i kept))
    → (SettleNothing number at e kept → same)
    → ((slot : sessions.Slot) → MayReach at x slot → KeepsSlot y (slot_after number at [] e slot))
    → ((slot : sessions.Slot) → MayReach at x slot
    → Grows mid later draft new (with_outcomes at (settled_by number at e slot)) (outcomes_notes at (settled_by number at e slot)))
    → ((slot : sessions.Slot) → MayReach at x slot → settled_by number at e slot ≡ [] → same → changed)
    → ((known : List Fact) → holds known → mid known) → (later → clean)
    → FirstReached number at e (i + 1) (slice_set now i y) kept
    × Grows holds later first new (with_settled number at e (take (i + 1) kept)) (settled_notes number at e (take (i + 1) kept))
    × (SettleNothing number at e kept → changed)
goes_further holds mid clean later same changed number at e i now kept first draft new x y less is keeps on quiet keeps_slot reported quiet_slot kept_holds cleaner =
    let next = next_slot number at e i now kept x less is keeps in
    let more : i + 1 ≡ suc i = add-one i in (
      subst (λ (n : ℕ). FirstReached number at e n (slice_set now i y) kept) (sym more) (next.next y (keeps_slot next.slot next.here)),
      subst (λ (n : ℕ). Grows holds later first new (with_settled number at e (take n kept)) (settled_notes number at e (take n kept))) (sym more)
          (grows_like holds later first new _ _ _ _ next.facts next.notes
          (grows_then holds mid clean later first draft new (with_settled number at e (take i kept)) (with_outcomes at (settled_by number at e next.slot))
          (settled_notes number at e (take i kept)) (outcomes_notes at (settled_by number at e next.slot)) kept_holds cleaner
          (before_outcomes at (settled_by number at e next.slot)) on (reported next.slot next.here))),
      λ none. quiet_slot next.slot next.here (next.quiet none) (quiet none),
    )

pub goes_to_end : (holds : List Fact → Type 0) (clean : Type 0) (number at : ℕ) (e : Event) (some all : List sessions.Slot) (first draft : PendingWrite) → some ≡ all
    → Grows holds clean first draft (with_settled number at e some) (settled_notes number at e some)
    → Grows holds clean first draft (with_settled number at e all) (settled_notes number at e all)
goes_to_end holds clean number at e some all first draft is on =
    subst (λ (ls : List sessions.Slot). Grows holds clean first draft (with_settled number at e ls) (settled_notes number at e ls)) is on
