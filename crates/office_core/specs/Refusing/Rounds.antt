-- The number of polls that a device's Modbus session can start now, one after another.
use Rattle.std.specs.Prelude.{◌≡◌, ℕ, min, true, false, List, length, Option, Some, None, is_none, nat_lt}
use Rattle.mb_wire.specs.declared.span.ReadSpan.{ReadSpan}
use Rattle.poll_core.specs.Settling as session
use Rattle.office_events.specs.declared.facts.Device.{Device}
use Rattle.office_books.specs.Sessions.{Slot, slot_of, is_startable, sends_at}
use Rattle.office_books.specs.History.{sends_from}
use Rattle.office_books.specs.Refusals.{can_start}

-- True if the named device exists and can start exactly `room` polls now, one after another.
pub record HasRoomFor (slots : List Slot) (device : Option (List ℕ)) (room : ℕ) : Type 0 where
  pub known : is_none (slot_of slots device) ≡ false
  pub starts : can_start slots device ≡ nat_lt 0 room
  pub sends : (number at : ℕ) (spans : List ReadSpan)
      → length (sends_from number at spans (slot_of slots device)) ≡ min room (length spans)

-- True if the Modbus session of the device can start exactly the given number of polls now, one
-- after another.
pub record HasRoomOn (device : Device) (present : Option (List session.Event))
    (room : ℕ) : Type 0 where
  pub starts : is_startable device present ≡ nat_lt 0 room
  pub sends : (number at : ℕ) (spans : List ReadSpan)
      → length (sends_at number at device present spans) ≡ min room (length spans)

-- True if the named device can start exactly the given number of polls now, one after another.
-- `None` means that no device has the name.
abbrev pub HasRoom : List Slot → (device : Option (List ℕ)) → Option ℕ → Type 0
HasRoom slots device None = is_none (slot_of slots device) ≡ true
HasRoom slots device (Some room) = HasRoomFor slots device room
