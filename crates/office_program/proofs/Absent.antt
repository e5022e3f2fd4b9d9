-- Proof that a disconnected device has no session (the polls since its last connection), and
-- therefore no pending polls.
use Rattle.std.proofs.Common.{◌≡◌, ◌⊎◌, inl, inr, ℕ, nat_lt, Bool, true, false, ◌||◌, cond, List, [], ◌∷◌, ◌++◌, map, Option, None, Some, Result, Ok, refl, ap, subst}
use Rattle.std.specs.List.{find}
use Rattle.poll_core.specs.Settling as session
use Rattle.poll_core.specs.declared.outcome.Closing.{Closing}
use Rattle.mb_wire.specs.declared.span.ReadSpan.{ReadSpan}
use Rattle.office_events.specs.declared.answers.Answer.{Answer}
use Rattle.office_events.specs.declared.answers.Answer.TheVariants as answer
use Rattle.office_events.specs.declared.events.Event.TheVariants as event
use Rattle.office_events.specs.declared.refusals.Refusal.{Refusal}
use Rattle.office_events.specs.declared.refusals.Refusal.TheVariants as refusal
use Rattle.office_books.specs.Facts.{is_named, moment_limit}
use Rattle.office_books.specs.PollEndings.{waiting}
use Rattle.office_books.specs.History.{History, Fed, facts_of, latest_of, slots_of, next_poll}
use Rattle.office_books.specs.Refusals.{IsAccepted, comes_wrongly, is_mistimed, reasons, refusal_of, refuses, unless_refused, with_answer}
use Rattle.office_books.specs.Sessions.{Slot, slot_of, slot_after, slot_reached, with_happenings}
use Rattle.office_books.specs.declared.failures.Failures.{Failures}
use Rattle.office_core.specs.Failing.{FailsOutside}
use Rattle.office_core.specs.Taking.{IsAnswer}
use Rattle.office_program.specs.Rounds.{NoneWaits}

-- True if the table entry (slot) belongs to another device than `given`, or if it has no polling
-- session. A disconnected device has no session.
abbrev IsLeft : Option (List ℕ) → Slot → Type 0
IsLeft given slot = is_named given slot.device.name ≡ true → slot.present ≡ None

closed_slot : (number at : ℕ) (spans : List ReadSpan) (given : Option (List ℕ)) (c : Closing) (slot : Slot) (before : List session.Event) (named : Bool)
    → is_named given slot.device.name ≡ named
    → IsLeft given (with_happenings slot before (cond named (session.Close at c ∷ []) []))
closed_slot number at spans given c slot before true is h = refl
closed_slot number at spans given c slot before false is h = absurd (cc)

left_slot : (number at : ℕ) (spans : List ReadSpan) (given : Option (List ℕ)) (c : Closing) (slot : Slot) (present : Option (List session.Event))
    → slot.present ≡ present → IsLeft given (slot_reached number at spans (event.Gone given c) slot present)
left_slot number at spans given c slot None is = λ h. is
left_slot number at spans given c slot (Some before) is =
    closed_slot number at spans given c slot before (is_named given slot.device.name) refl

first_or_later : (named : Bool) (first slot : Slot) (later : Option Slot) → cond named (Some first) later ≡ Some slot
    → ((named ≡ true) × (first ≡ slot)) ⊎ (later ≡ Some slot)
first_or_later true first slot later h = let same : first ≡ slot = cc in inl (refl, same)
first_or_later false first slot later h = inr h

-- True if the device `given` has no table entry (slot) with a polling session. A disconnected
-- device has no session.
abbrev AreLeft : Option (List ℕ) → List Slot → Type 0
AreLeft given slots = (slot : Slot) → slot_of slots given ≡ Some slot → slot.present ≡ None

left_slots : (number at : ℕ) (spans : List ReadSpan) (given : Option (List ℕ)) (c : Closing) (slots : List Slot)
    → AreLeft given (map (slot_after number at spans (event.Gone given c)) slots ++ [])
left_slots number at spans given c [] slot h = absurd (cc)
left_slots number at spans given c (one ∷ slots) slot h =
    let after = slot_after number at spans (event.Gone given c) one in
    elim (first_or_later (is_named given after.device.name) after slot _ h) [
      | inl found ↦
          let P : Slot → Type 0 = λ l. l.present ≡ None in
          subst P found.1 (left_slot number at spans given c one one.present refl found.0)
      | inr later ↦ left_slots number at spans given c slots slot later
    ]

none_waits : (given : Option (List ℕ)) (history : History) → AreLeft given (slots_of history) → NoneWaits given history
none_waits given history left slot found = ap (waiting slot.device) (left slot found)

never : {X : Type 0} (p : X → Bool) (xs : List X) → ((x : X) → p x ≡ false) → find p xs ≡ None
never p [] h = refl
never p (x ∷ xs) h = rw (h x) (never p xs h)

-- True if `why` is a reason to refuse the event `Gone` (the device is disconnected), for example a
-- timestamp before the latest accepted event.
abbrev GoneRefused : (slots : List Slot) → (latest at : ℕ) → Option (List ℕ) → Closing → Refusal → Bool
GoneRefused slots latest at given c why = is_mistimed latest at why || comes_wrongly slots (event.Gone given c) why

right : (slots : List Slot) (latest at : ℕ) (given : Option (List ℕ)) (c : Closing) (slot : Slot) (before : List session.Event)
    → nat_lt at latest ≡ false → nat_lt moment_limit at ≡ false → slot_of slots given ≡ Some slot → slot.present ≡ Some before
    → (why : Refusal) → GoneRefused slots latest at given c why ≡ false
right slots latest at given c slot before on_time within found present refusal.NotFound = rw found refl
right slots latest at given c slot before on_time within found present refusal.Exists = refl
right slots latest at given c slot before on_time within found present refusal.ClockBack = rw on_time refl
right slots latest at given c slot before on_time within found present refusal.BadScale = refl
right slots latest at given c slot before on_time within found present refusal.NegativeStep = refl
right slots latest at given c slot before on_time within found present refusal.NotLater = refl
right slots latest at given c slot before on_time within found present refusal.SpanTooLong = refl
right slots latest at given c slot before on_time within found present refusal.TotalFull = refl
right slots latest at given c slot before on_time within found present refusal.Ended = refl
right slots latest at given c slot before on_time within found present refusal.Busy = rw (found, present) refl
right slots latest at given c slot before on_time within found present refusal.Reused = refl
right slots latest at given c slot before on_time within found present refusal.Limit = rw within refl
right slots latest at given c slot before on_time within found present (refusal.Store cause) = refl
right slots latest at given c slot before on_time within found present refusal.Memory = refl
right slots latest at given c slot before on_time within found present refusal.Stopped = refl
right slots latest at given c slot before on_time within found present refusal.NotVoidable = refl
right slots latest at given c slot before on_time within found present (refusal.NotPlausible cause) = refl

absent_by : (history : History) (at : ℕ) (given : Option (List ℕ)) (c : Closing) (why : Refusal) (slot : Slot)
    (present : Option (List session.Event)) → slot.present ≡ present → nat_lt at (latest_of history) ≡ false → nat_lt moment_limit at ≡ false
    → slot_of (slots_of history) given ≡ Some slot → refusal_of history at (event.Gone given c) ≡ Some why → slot.present ≡ None
absent_by history at given c why slot None is on_time within found refused = is
absent_by history at given c why slot (Some before) is on_time within found refused =
    let none : refusal_of history at (event.Gone given c) ≡ None =
    never (refuses history at (event.Gone given c)) reasons
    (right (slots_of history) (latest_of history) at given c slot before on_time within found is) in
    absurd (cc)

gone_or_absent : (history : History) (at : ℕ) (given : Option (List ℕ)) (c : Closing) (refused : Option Refusal) (reply : Result Answer Refusal)
    → refusal_of history at (event.Gone given c) ≡ refused → nat_lt at (latest_of history) ≡ false → nat_lt moment_limit at ≡ false
    → reply ≡ unless_refused answer.Noted refused → NoneWaits given (with_answer history at (event.Gone given c) reply)
gone_or_absent history at given c None reply is on_time within reported =
    rw reported (none_waits given (Fed at (event.Gone given c) ∷ history) (left_slots (next_poll (facts_of history)) at [] given c (slots_of history)))
gone_or_absent history at given c (Some why) reply is on_time within reported =
    rw reported (none_waits given history (λ slot found. absent_by history at given c why slot slot.present refl on_time within found is))

-- Suppose that the timestamp of the event `Gone` (the device is disconnected) is not before the
-- latest accepted event, and not past the largest supported timestamp. Then after this event no
-- poll of the device is pending, or the store or memory failed.
pub gone : (history : History) (at : ℕ) (given : Option (List ℕ)) (c : Closing) (before after : Failures) (reply : Result Answer Refusal)
    → nat_lt at (latest_of history) ≡ false → nat_lt moment_limit at ≡ false → IsAnswer history at (event.Gone given c) before after reply
    → NoneWaits given (with_answer history at (event.Gone given c) reply) ⊎ FailsOutside (IsAccepted history at (event.Gone given c)) before after reply
gone history at given c before after reply on_time within (inl reported) =
    inl (gone_or_absent history at given c (refusal_of history at (event.Gone given c)) reply refl on_time within reported.0)
gone history at given c before after reply on_time within (inr fails) = inr fails

-- If the event `Gone` (the device is disconnected) is accepted, then afterwards none of the
-- device's polls is pending (without an outcome).
pub gone_accepted : (history : History) (at : ℕ) (given : Option (List ℕ)) (c : Closing) (before after : Failures) (reported : Answer)
    → with_answer history at (event.Gone given c) (Ok reported) ≡ Fed at (event.Gone given c) ∷ history
    → NoneWaits given (with_answer history at (event.Gone given c) (Ok reported))
gone_accepted history at given c before after reported is =
    rw is (none_waits given (Fed at (event.Gone given c) ∷ history) (left_slots (next_poll (facts_of history)) at [] given c (slots_of history)))
