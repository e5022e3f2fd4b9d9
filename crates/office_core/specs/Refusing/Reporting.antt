-- The reason to refuse an event, as computed from the device connections in memory and the store.
use Rattle.std.specs.Prelude.{◌≡◌, ℕ, List, Option, Result, IfOk, IfSome}
use Rattle.office_events.specs.declared.events.Event.{Event}
use Rattle.office_events.specs.declared.refusals.Refusal.{Refusal}
use Rattle.office_books.specs.History.{History, facts_of, slots_of, latest_of}
use Rattle.office_books.specs.Refusals.{refusal_of}
use Rattle.office_core.specs.declared.sessions.slots.Slot.{Slot}
use Rattle.office_core.specs.Sessions.Keeping.{KeepsSlots}
use Rattle.office_books.specs.declared.faults.BooksFault.{BooksFault}
use Rattle.office_books.specs.Ledgers.{Ledger}
use Rattle.office_core.specs.Refusing.Asking.{IsOfSession}

-- States that the result is the reason to refuse the event, if there is one. The result is computed
-- from the connections in memory and the store. States nothing if a wrong result of the store was
-- not detected.
abbrev pub ReportsWhy : (old new : Ledger) → List Slot → (latest at : ℕ) → Event
    → Result (Option Refusal) BooksFault → Type 0
ReportsWhy old new kept latest at e result =
    (past : History) → latest ≡ latest_of past → KeepsSlots kept (slots_of past)
    → old.holds (facts_of past) → new.is_clean → IfOk result (λ r. r ≡ refusal_of past at e)

-- True if the result is the reason to refuse a device event, if any, computed from the connections
-- in memory only.
pub record ReportsAlone (kept : List Slot) (latest at : ℕ) (e : Event)
    (result : Result (Option Refusal) BooksFault) : Type 0 where
  pub why : (past : History) → latest ≡ latest_of past → KeepsSlots kept (slots_of past)
      → IfOk result (λ r. r ≡ refusal_of past at e)
  pub reason : IfOk result (λ r. IfSome r IsOfSession)
