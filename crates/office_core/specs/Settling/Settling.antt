-- The polls that a device event ends, for each session (connection of a device).
use Rattle.std.specs.Prelude.{◌≡◌, ℕ, ◌≤◌, Bool, false, List, [], ◌∷◌, ◌++◌, Option, Some, None, Result, OnOk, if◌then◌else◌}
use Rattle.poll_core.specs.Settling as session
use Rattle.poll_core.specs.Standing.{State, Stands}
use Rattle.office_events.specs.declared.facts.Device.{Device}
use Rattle.office_events.specs.declared.facts.Fact.{Fact}
use Rattle.office_events.specs.declared.events.Event.{Event}
use Rattle.office_events.specs.declared.events.Event.TheVariants as event
use Rattle.office_books.specs.Facts.{is_named}
use Rattle.office_books.specs.Sessions as sessions
use Rattle.office_books.specs.History.{with_outcomes, with_settled, settled_by}
use Rattle.office_books.specs.Notes.{outcomes_notes, settled_notes}
use Rattle.office_core.specs.declared.sessions.slots.Slot.{Slot}
use Rattle.office_core.specs.Sessions.Keeping.{KeepsSlot}
use Rattle.office_core.specs.Sessions.Moments.{none_later}
use Rattle.office_books.specs.declared.faults.BooksFault.{BooksFault}
use Rattle.office_books.specs.Ledgers.{Ledger}
use Rattle.office_core.specs.declared.settling.drafts.PendingWrite.{PendingWrite}
use Rattle.office_core.specs.Settling.Drafts.{Adds, Grows}

-- True if the event is from a device or its connection, or a timer event, but not a command.
abbrev pub IsSettling : Event → Type 0
IsSettling (event.Connected given) = Unit {0}
IsSettling (event.Bytes given piece) = Unit {0}
IsSettling event.Tick = Unit {0}
IsSettling (event.Gone given closing) = Unit {0}
IsSettling (event.Command c) = ⊥
IsSettling (event.Asked asked) = ⊥

-- The event of a device's Modbus session that an event of the program causes. `None` if the
-- program's event does not concern the session.
abbrev pub happening_on : (at : ℕ) → Event → Device → Option session.Event
happening_on at (event.Bytes given piece) device =
    if is_named given device.name then Some (session.Piece at piece) else None
happening_on at event.Tick device = Some (session.Tick at)
happening_on at (event.Gone given closing) device =
    if is_named given device.name then Some (session.Close at closing) else None
happening_on at _ device = None

-- True if the slot `kept` (a device with its connection) in memory has the device and the session
-- of `slot`. No event of the session may be later than `at`.
pub record MayReach (at : ℕ) (kept : Slot) (slot : sessions.Slot) : Type 0 where
  pub keeps : KeepsSlot kept slot
  pub before : none_later at slot.present

-- True if each slot (a device with its connection) in memory has the device and the session of the
-- given slot at the same index. No event of a session may be later than the timestamp.
abbrev pub MayReachAll : ℕ → List Slot → List sessions.Slot → Type 0
MayReachAll at [] [] = Unit {0}
MayReachAll at (k ∷ kept) (slot ∷ slots) = MayReach at k slot × MayReachAll at kept slots
MayReachAll at _ _ = ⊥

-- True if the event is not earlier than the Modbus session's last event, and ends no poll of the
-- session.
pub record SettlesNothing (kept : State) (happening : session.Event) : Type 0 where
  pub events : List session.Event
  pub stands : Stands kept events
  pub later : kept.last ≤ session.moment_of happening
  pub nothing : session.outcomes_at kept.timeout events happening ≡ []

-- The guarantees of passing an event to a Modbus session. The session has processed the event, and
-- the pending write (records not yet stored) has all outcomes and readings of the event.
pub record ReportsSettled (holds : List Fact → Type 0) (clean : Type 0) (before after : State)
    (happening : session.Event) (first last : PendingWrite) : Type 0 where
  pub timeout : after.timeout ≡ before.timeout
  pub window : after.window ≡ before.window
  pub stands : (events : List session.Event) → Stands before events
      → Stands after (events ++ happening ∷ [])
  pub reported : (events : List session.Event) → Stands before events
      → let at = session.moment_of happening in
      let outcomes = session.outcomes_at before.timeout events happening in
      Grows holds clean first last (with_outcomes at outcomes) (outcomes_notes at outcomes)

-- States that, if the event is not earlier than the Modbus session's last event, a successful call
-- passes the event to the session. The call adds all outcomes of the event to the pending write
-- (records not yet stored).
abbrev pub ReportsAll : {T : Type 0} → (old new : Ledger) → (before after : State) → session.Event
    → (first last : PendingWrite) → Result T BooksFault → Type 0
ReportsAll old new before after happening first last result =
    before.last ≤ session.moment_of happening
    → OnOk result (ReportsSettled old.holds new.is_clean before after happening first last)

-- States that a successful call passes an event that concerns the Modbus session to it, and adds
-- all outcomes of the event to the pending write (records not yet stored). If the event does not
-- concern the session, then both are unchanged.
abbrev pub ReportsReached : {T : Type 0} → (old new : Ledger) → (before after : State)
    → Option session.Event → (first last : PendingWrite) → Result T BooksFault → Type 0
ReportsReached old new before after None first last result =
    OnOk result ((after ≡ before) × (last ≡ first))
ReportsReached old new before after (Some happening) first last result =
    ReportsAll old new before after happening first last result

-- True if the event does not concern the Modbus session, or ends no poll of the session.
abbrev pub ReachesQuietly : State → Option session.Event → Type 0
ReachesQuietly kept None = Unit {0}
ReachesQuietly kept (Some happening) = SettlesNothing kept happening

-- True if the event concerns the Modbus session and closes it.
abbrev pub ends_session : Option session.Event → Bool
ends_session None = false
ends_session (Some happening) = sessions.is_close happening

-- True if the event ends no poll on the connections of the given devices.
abbrev pub SettleNothing : (number at : ℕ) → Event → List sessions.Slot → Type 0
SettleNothing number at e [] = Unit {0}
SettleNothing number at e (slot ∷ slots) =
    (settled_by number at e slot ≡ []) × SettleNothing number at e slots

-- True if a successful call added to the pending write (records not yet stored) the outcomes and
-- readings that the event causes on the given device's Modbus session. They do not depend on the
-- number of the next poll.
abbrev pub AddsOfSlot : {T : Type 0} → (old new : Ledger) → (at : ℕ) → Event → Slot
    → (before after : PendingWrite) → Result T BooksFault → Type 0
AddsOfSlot old new at e kept before after result =
    (number : ℕ) (stood : sessions.Slot) → MayReach at kept stood
    → let outcomes = settled_by number at e stood in
    Adds old new before after result (with_outcomes at outcomes) (outcomes_notes at outcomes)

-- True if the outcomes and readings that the event causes on all Modbus sessions are added to the
-- pending write (records not yet stored), in order.
abbrev pub AddsOfSlots : {T : Type 0} → (old new : Ledger) → (at : ℕ) → Event → List Slot
    → (before after : PendingWrite) → Result T BooksFault → Type 0
AddsOfSlots old new at e kept before after result =
    (number : ℕ) (stood : List sessions.Slot) → MayReachAll at kept stood
    → Adds old new before after result (with_settled number at e stood)
    (settled_notes number at e stood)
