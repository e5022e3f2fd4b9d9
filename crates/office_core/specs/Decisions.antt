-- The decision whether an event is accepted, refused, or answered as a retry. The program decides
-- before it executes the event.
use Rattle.std.specs.Prelude.{◌≡◌, ℕ, List, false, Option, Some, None, Result, Ok, Err, IfOk, IfSome, IsOk}
use Rattle.office_events.specs.declared.answers.Answer.{Answer}
use Rattle.office_events.specs.declared.answers.Answer.TheVariants as answer
use Rattle.office_events.specs.declared.events.Event.{Event}
use Rattle.office_events.specs.declared.refusals.Refusal.{Refusal}
use Rattle.office_events.specs.declared.refusals.Refusal.TheVariants as refusal
use Rattle.office_books.specs.History.{History, facts_of, slots_of, latest_of}
use Rattle.office_books.specs.Refusals.{IsAccepted, refusal_of, decision_of}
use Rattle.office_core.specs.declared.sessions.slots.Slot.{Slot}
use Rattle.office_core.specs.Sessions.Keeping.{KeepsSlots}
use Rattle.office_books.specs.declared.faults.BooksFault.{BooksFault}
use Rattle.office_books.specs.Ledgers.{Ledger}
use Rattle.office_core.specs.Refusing.Asking.{IsOfEvent}
use Rattle.office_core.specs.Failing.{is_failure}

-- The decision on an event after a history of accepted events. The decision is `None` if the event
-- is accepted, otherwise the answer to the event.
abbrev pub Decides : History → (at : ℕ) → Event → Option (Result Answer Refusal) → Type 0
Decides past at e None = IsAccepted past at e
Decides past at e (Some given) = given ≡ decision_of past at e

-- States that, if every wrong result of the store was detected, the result is the decision on the
-- event that the accepted events require. The program decides from the devices' connections and the
-- store.
abbrev pub Decided : (old new : Ledger) → List Slot → (latest at : ℕ) → Event
    → Result (Option (Result Answer Refusal)) BooksFault → Type 0
Decided old new kept latest at e result =
    (past : History) → latest ≡ latest_of past → KeepsSlots kept (slots_of past)
    → old.holds (facts_of past) → new.is_clean → IfOk result (Decides past at e)

-- The guarantees for the decision on a device event, which needs no query of the store. If the
-- result is `None`, no reason to refuse the event applies. Otherwise the result is an answer that
-- reports no failure.
pub record DecidesAlone {B : Type 0} (old new : B) (kept : List Slot) (latest at : ℕ) (e : Event)
    (result : Result (Option (Result Answer Refusal)) BooksFault) : Type 0 where
  pub books : new ≡ old
  pub ok : IsOk result
  pub accepts : (past : History) → latest ≡ latest_of past → KeepsSlots kept (slots_of past)
      → IfOk result (λ given. given ≡ None → refusal_of past at e ≡ None)
  pub answers : IfOk result (λ given. IfSome given (λ r. is_failure r ≡ false))

-- True if the answer to an event states that the event had no effect. The answer is the stored
-- answer to a retry, or a refusal.
abbrev pub IsNoChange : Result Answer Refusal → Type 0
IsNoChange (Ok (answer.Again kind)) = Unit {0}
IsNoChange (Ok _) = ⊥
IsNoChange (Err refusal.Reused) = Unit {0}
IsNoChange (Err why) = IsOfEvent why
