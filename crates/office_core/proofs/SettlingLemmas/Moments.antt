-- Proof that no event of a Modbus session in memory is later than the next accepted event.
use Rattle.std.proofs.Common.{ℕ, List, [], ◌∷◌}
use Rattle.office_events.specs.declared.events.Event.{Event}
use Rattle.office_books.specs.Sessions as sessions
use Rattle.office_books.specs.History.{History, slots_of}
use Rattle.office_core.specs.declared.sessions.slots.Slot.{Slot}
use Rattle.office_core.specs.Sessions.Keeping.{KeepsSlots}
use Rattle.office_core.proofs.SessionsLemmas.Moments.{AllBefore, before_event}
use Rattle.office_core.specs.Settling.Settling.{MayReachAll}
use Rattle.office_core.specs.Settling.Events.{IsNext}

kept_before : (at : ℕ) (kept : List Slot) (slots : List sessions.Slot) → KeepsSlots kept slots → AllBefore at slots → MayReachAll at kept slots
kept_before at [] [] keeps all = tt
kept_before at [] (slot ∷ slots) keeps all = absurd keeps
kept_before at (k ∷ kept) [] keeps all = absurd keeps
kept_before at (k ∷ kept) (slot ∷ slots) keeps all =
    (record { keeps = keeps.0; before = all.0 }, kept_before at kept slots keeps.1 all.1)

-- If an event is accepted next, then each slot (a device with its connection) in memory has its
-- device and the session that follows from the earlier events. No event of the session is later
-- than the accepted event.
pub reaches_all : (past : History) (kept : List Slot) (at : ℕ) (e : Event) → IsNext past kept at e → MayReachAll at kept (slots_of past)
reaches_all past kept at e next =
    kept_before at kept (slots_of past) next.keeps (before_event past at e next.is_past.accepted next.accepted)
