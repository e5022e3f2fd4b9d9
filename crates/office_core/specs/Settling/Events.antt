-- The effects of an accepted device event on the store, the device connections and the
-- notifications.
use Rattle.std.specs.Prelude.{◌≡◌, ℕ, List, [], ◌∷◌, None, Result, IfOk, OnOk, IsOk}
use Rattle.std.specs.declared.alloc.Global.{Global}
use Rattle.std.specs.declared.vec.Vec.{Vec}
use Rattle.office_events.specs.declared.answers.Note.{Note}
use Rattle.office_events.specs.declared.events.Event.{Event}
use Rattle.office_books.specs.History.{History, Fed, facts_of, slots_of, next_poll}
use Rattle.office_books.specs.Notes.{notes_of}
use Rattle.office_books.specs.Refusals.{refusal_of}
use Rattle.office_books.specs.Lawfulness.{IsPast}
use Rattle.office_core.specs.declared.sessions.slots.Slot.{Slot}
use Rattle.office_core.specs.Sessions.Keeping.{KeepsSlots}
use Rattle.office_books.specs.declared.faults.BooksFault.{BooksFault}
use Rattle.office_books.specs.Ledgers.{Ledger, Moves}

-- True if the devices and their connections are in the state after the accepted events `past`, and
-- no reason to refuse the event applies.
pub record IsNext (past : History) (slots : List Slot) (at : ℕ) (e : Event) : Type 0 where
  pub is_past : IsPast past
  pub keeps : KeepsSlots slots (slots_of past)
  pub accepted : refusal_of past at e ≡ None

-- The guarantees of processing a device event. On `Ok` the store has all poll outcomes and readings
-- of the event, the Modbus sessions have processed the event, and the notifications are those of
-- the event.
--
-- If processing a device event returns an error, the store's records are unchanged, but after a
-- crash the store may have all records of the event.
pub record Settles (past : History) (at : ℕ) (e : Event) (old new : Ledger) (after : List Slot)
    (result : Result (Vec Note Global) BooksFault) : Type 0 where
  pub slots : OnOk result (KeepsSlots after (slots_of (Fed at e ∷ past)))
  pub books : Moves old new (facts_of past) (facts_of (Fed at e ∷ past)) result
  pub notes : old.holds (facts_of past) → new.is_clean → IfOk result (λ reported.
      reported.items ≡ notes_of (next_poll (facts_of past)) at e (slots_of past) (facts_of past))

-- True if the processing of a device event succeeds without a query of the store, and reports no
-- notifications.
pub record IsQuiet {B : Type 0} (old new : B)
    (result : Result (Vec Note Global) BooksFault) : Type 0 where
  pub ok : IsOk result
  pub reported : IfOk result (λ reported. reported.items ≡ [])
  pub books : new ≡ old
