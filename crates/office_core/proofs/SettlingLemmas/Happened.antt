-- Lemmas: after a device event, such as a response or a timeout, the new records, the notifications
-- and the device slots (connection states) are those that the specification gives.
use Rattle.std.proofs.Common.{◌≡◌, ℕ, List, [], ◌∷◌, ◌++◌, map, reverse, refl, sym, ap, subst, ◌∙◌, Option, Some, None}
use Rattle.std.proofs.lemmas.List.{append-nil}
use Rattle.poll_core.specs.Settling as session
use Rattle.office_events.specs.declared.facts.Device.{Device}
use Rattle.office_events.specs.declared.facts.Fact.{Fact}
use Rattle.office_events.specs.declared.answers.Note.{Note}
use Rattle.office_events.specs.declared.events.Event.{Event}
use Rattle.office_events.specs.declared.events.Event.TheVariants as event
use Rattle.office_books.specs.Sessions as sessions
use Rattle.office_books.specs.Sessions.{command_in, slot_after}
use Rattle.office_books.specs.History.{History, Fed, facts_of, slots_of, next_poll, settled_on, with_outcomes, with_settled, facts_after}
use Rattle.office_books.specs.Lawful.{AreLawful}
use Rattle.office_books.specs.Refusals.{kept_of}
use Rattle.office_books.specs.Lawfulness.{FactsAreLawful, PutsPlanned}
use Rattle.office_core.specs.declared.settling.drafts.PendingWrite.{PendingWrite}
use Rattle.office_core.specs.Settling.Drafts.{so_far, AreReported, Grows}
use Rattle.office_books.specs.Notes.{outcomes_notes, settled_notes, notes_of}
use Rattle.office_core.specs.declared.sessions.slots.Slot.{Slot}
use Rattle.office_core.specs.Settling.Settling.{IsSettling}
use Rattle.office_core.specs.Settling.Events.{IsNext}

-- A device event, such as a response or a timeout, starts no polls and adds no devices.
pub slots_happened : (past : History) (at : ℕ) (e : Event) → IsSettling e
    → map (slot_after (next_poll (facts_of past)) at [] e) (slots_of past) ≡ slots_of (Fed at e ∷ past)
slots_happened past at (event.Connected given) s = sym (append-nil _)
slots_happened past at (event.Bytes given piece) s = sym (append-nil _)
slots_happened past at event.Tick s = sym (append-nil _)
slots_happened past at (event.Gone given closing) s = sym (append-nil _)
slots_happened past at (event.Command c) s = absurd s
slots_happened past at (event.Asked asked) s = absurd s

-- If an event is a new connection, then it ends no polls.
unreached : (number at : ℕ) (given : Option (List ℕ)) (device : Device) (present : Option (List session.Event))
    → settled_on number at (event.Connected given) device present ≡ []
unreached number at given device None = refl
unreached number at given device (Some before) = refl

connected_facts : (number at : ℕ) (given : Option (List ℕ)) (slots : List sessions.Slot) (facts : List Fact)
    → with_settled number at (event.Connected given) slots facts ≡ facts
connected_facts number at given [] facts = refl
connected_facts number at given (slot ∷ slots) facts =
    ap (λ settled. with_settled number at (event.Connected given) slots (with_outcomes at settled facts)) (unreached number at given slot.device slot.present)
    ∙ connected_facts number at given slots facts

connected_notes : (number at : ℕ) (given : Option (List ℕ)) (slots : List sessions.Slot) (facts : List Fact)
    → settled_notes number at (event.Connected given) slots facts ≡ []
connected_notes number at given [] facts = refl
connected_notes number at given (slot ∷ slots) facts =
    ap (λ settled. outcomes_notes at settled facts ++ settled_notes number at (event.Connected given) slots (with_outcomes at settled facts)) (unreached number at given slot.device slot.present)
    ∙ connected_notes number at given slots facts

pub facts_happened : (number at : ℕ) (e : Event) → IsSettling e → (slots : List sessions.Slot) (facts : List Fact)
    → with_settled number at e slots facts ≡ facts_after number at e slots facts
facts_happened number at (event.Connected given) s slots facts = connected_facts number at given slots facts
facts_happened number at (event.Bytes given piece) s slots facts = refl
facts_happened number at event.Tick s slots facts = refl
facts_happened number at (event.Gone given closing) s slots facts = refl
facts_happened number at (event.Command c) s slots facts = absurd s
facts_happened number at (event.Asked asked) s slots facts = absurd s

pub notes_happened : (number at : ℕ) (e : Event) → IsSettling e → (slots : List sessions.Slot) (facts : List Fact)
    → settled_notes number at e slots facts ≡ notes_of number at e slots facts
notes_happened number at (event.Connected given) s slots facts = connected_notes number at given slots facts
notes_happened number at (event.Bytes given piece) s slots facts = refl
notes_happened number at event.Tick s slots facts = refl
notes_happened number at (event.Gone given closing) s slots facts = refl
notes_happened number at (event.Command c) s slots facts = absurd s
notes_happened number at (event.Asked asked) s slots facts = absurd s

-- A device event, such as a response or a timeout, has no idempotency key and is not a retry of a
-- request.
is_new : (facts : List Fact) (e : Event) → IsSettling e → kept_of facts e ≡ None
is_new facts (event.Connected given) s = refl
is_new facts (event.Bytes given piece) s = refl
is_new facts event.Tick s = refl
is_new facts (event.Gone given closing) s = refl
is_new facts (event.Command c) s = absurd s
is_new facts (event.Asked asked) s = absurd s

puts_nothing : (e : Event) → IsSettling e → PutsPlanned (command_in e)
puts_nothing (event.Connected given) s = tt
puts_nothing (event.Bytes given piece) s = tt
puts_nothing event.Tick s = tt
puts_nothing (event.Gone given closing) s = tt
puts_nothing (event.Command c) s = absurd s
puts_nothing (event.Asked asked) s = absurd s

-- If a device event is accepted, then the records after this event are lawful (the rules for adding
-- records accept each one).
lawful_next : FactsAreLawful → (past : History) (slots : List Slot) (at : ℕ) (e : Event) → IsSettling e → IsNext past slots at e
    → AreLawful (facts_of (Fed at e ∷ past))
lawful_next law past slots at e s next =
    law (Fed at e ∷ past) (record { new = is_new (facts_of past) e s; right = next.accepted }, next.is_past.accepted)
    (puts_nothing e s, next.is_past.planned)

-- True if the pending write (records not yet stored) has exactly the records and notifications that
-- the specification gives for the device event.
pub record DraftStands (past : History) (at : ℕ) (e : Event) (draft : PendingWrite) : Type 0 where
  pub facts : so_far draft (facts_of past) ≡ facts_of (Fed at e ∷ past)
  pub notes : draft.notes.items ≡ notes_of (next_poll (facts_of past)) at e (slots_of past) (facts_of past)
  pub lawful : AreLawful (so_far draft (facts_of past))

pub draft_stands : FactsAreLawful → (past : History) (kept : List Slot) (at : ℕ) (e : Event) → IsSettling e → IsNext past kept at e
    → (holds : List Fact → Type 0) (clean : Type 0) (first draft : PendingWrite) → first.facts.items ≡ [] → first.notes.items ≡ []
    → Grows holds clean first draft (with_settled (next_poll (facts_of past)) at e (slots_of past)) (settled_notes (next_poll (facts_of past)) at e (slots_of past))
    → holds (facts_of past) → clean → DraftStands past at e draft
draft_stands law past kept at e s next holds clean first draft no_facts no_notes on h c =
    let F : List Fact = facts_of past in
    let slots : List sessions.Slot = slots_of past in
    let number : ℕ = next_poll F in
    let start : so_far first F ≡ F = ap (λ (fs : List Fact). reverse fs ++ F) no_facts in
    let final : with_settled number at e slots (so_far first F) ≡ facts_of (Fed at e ∷ past) =
    ap (with_settled number at e slots) start ∙ facts_happened number at e s slots F in
    let lawful : AreLawful (facts_of (Fed at e ∷ past)) = lawful_next law past kept at e s next in
    let all = on F h c (subst AreReported (sym no_facts) tt) (subst AreLawful (sym final) lawful) in
    let facts : so_far draft F ≡ facts_of (Fed at e ∷ past) = all.facts ∙ final in
    record {
      facts = facts;
      notes =
          all.notes ∙ ap (λ (ns : List Note). ns ++ settled_notes number at e slots (so_far first F)) no_notes
          ∙ ap (settled_notes number at e slots) start ∙ notes_happened number at e s slots F;
      lawful = subst AreLawful (sym facts) lawful;
    }
