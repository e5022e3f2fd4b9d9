-- The records that an opening of the store adds to the store, and the slots (devices with their
-- connections) after the opening.
use Rattle.std.specs.Prelude.{◌≡◌, ℕ, true, ◌∷◌, None, Result, IfOk}
use Rattle.std.specs.declared.alloc.Global.{Global}
use Rattle.std.specs.declared.vec.Vec.{Vec}
use Rattle.office_events.specs.declared.facts.Device.{Device}
use Rattle.office_events.specs.declared.refusals.Refusal.{Refusal}
use Rattle.office_events.specs.declared.refusals.Refusal.TheVariants as refusal
use Rattle.office_books.specs.History.{History, Opened, facts_of, slots_of}
use Rattle.office_books.specs.Refusals.{opening_refusal_of}
use Rattle.office_books.specs.Lawfulness.{IsPast}
use Rattle.office_core.specs.declared.sessions.slots.Slot.{Slot}
use Rattle.office_core.specs.Sessions.Keeping.{KeepsSlots}
use Rattle.office_books.specs.declared.faults.BooksFault.{BooksFault}
use Rattle.office_books.specs.Ledgers.{Ledger, Moves}

-- A slot (the state of a connection) for the device, without a session because the device is not
-- connected yet.
unfoldable pub opened : Device → Slot
opened device = record { device = device; session = None; idle = λ i. true }

-- True if the program may open its store at timestamp `at` after `past`, a list of accepted
-- openings and events.
pub record MayOpen (past : History) (at : ℕ) : Type 0 where
  pub is_past : IsPast past
  pub accepted : opening_refusal_of (facts_of past) at ≡ None

-- The guarantees of an opening of the store (program start). On `Ok` all pending polls are recorded
-- as lost, and each device has a slot (connection state) without a Modbus session. On an error the
-- records are unchanged.
pub record Opens (past : History) (at : ℕ) (old new : Ledger)
    (result : Result (Vec Slot Global) BooksFault) : Type 0 where
  pub books : Moves old new (facts_of past) (facts_of (Opened at ∷ past)) result
  pub slots : old.holds (facts_of past) → new.is_clean
      → IfOk result (λ slots. KeepsSlots slots.items (slots_of (Opened at ∷ past)))

-- True for the two reasons to refuse an opening of the store. The opening's timestamp is before the
-- latest record's timestamp, or above the greatest allowed timestamp.
abbrev pub IsOfOpening : Refusal → Type 0
IsOfOpening refusal.ClockBack = Unit {0}
IsOfOpening refusal.Limit = Unit {0}
IsOfOpening _ = ⊥
