-- The relation between the slots in memory and the recorded devices. A slot is a device with its
-- session, the state of its connection. The slots are in the order in which the devices were added.
use Rattle.std.specs.Prelude.{◌≡◌, List, [], ◌∷◌, Option, Some, None}
use Rattle.poll_core.specs.Settling as session
use Rattle.poll_core.specs.Standing as standing
use Rattle.office_events.specs.declared.facts.Device.{Device}
use Rattle.office_books.specs.Sessions as sessions
use Rattle.office_core.specs.declared.sessions.slots.Slot.{Slot}

-- True if the session in memory is in the state that follows from the events of the connection. The
-- session also has the device's timeout and maximum number of pending polls (without an outcome).
pub record KeepsSession (device : Device) (kept : standing.State)
    (events : List session.Event) : Type 0 where
  pub stands : standing.Stands kept events
  pub timeout : kept.timeout ≡ device.timeout
  pub window : kept.window ≡ device.window

-- True if the slot of a device (its connection state) has a session exactly when the device is
-- connected. The session's state must follow from the events of the connection.
abbrev pub KeepsPresent : Device → Option standing.State → Option (List session.Event) → Type 0
KeepsPresent device None None = Unit {0}
KeepsPresent device (Some kept) (Some events) = KeepsSession device kept events
KeepsPresent device None (Some events) = ⊥
KeepsPresent device (Some kept) None = ⊥

-- True if the slot `kept` (a device with its connection) in memory has the device of `slot`, and
-- the session that follows from the events of that device's connection.
pub record KeepsSlot (kept : Slot) (slot : sessions.Slot) : Type 0 where
  pub device : kept.device ≡ slot.device
  pub session : KeepsPresent slot.device kept.session slot.present

-- True if, at each index, the slot (a device with its connection) in the first list has the state
-- that follows from the slot in the second list. The first list is in memory, and the second list
-- has the events of each connection.
abbrev pub KeepsSlots : List Slot → List sessions.Slot → Type 0
KeepsSlots [] [] = Unit {0}
KeepsSlots (kept ∷ rest) (slot ∷ slots) = KeepsSlot kept slot × KeepsSlots rest slots
KeepsSlots [] (slot ∷ slots) = ⊥
KeepsSlots (kept ∷ rest) [] = ⊥

-- True if the given value equals the value of the given function for every list of device slots
-- (devices with their connections) whose state the slots in memory have.
abbrev pub IsOfKept : {T : Type 0} → List Slot → T → (List sessions.Slot → T) → Type 0
IsOfKept kept result says =
    (slots : List sessions.Slot) → KeepsSlots kept slots → result ≡ says slots
