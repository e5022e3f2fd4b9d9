-- The devices in the order in which they were added, each with all events of its sessions. A
-- session is a connection of a device.
use Rattle.std.specs.Prelude.{ℕ, ◌+◌, Bool, true, false, List, [], ◌∷◌, ◌++◌, map, Option, Some, None, if◌then◌else◌}
use Rattle.std.specs.Option.{option_map, option_and_then, is_none}
use Rattle.std.specs.List.{find}
use Rattle.mb_wire.specs.Spans.{span_view}
use Rattle.poll_core.specs.Settling as session
use Rattle.poll_core.specs.Standing.{last_moment}
use Rattle.poll_core.specs.Starting.{start_fault}
use Rattle.office_events.specs.declared.facts.Device.{Device}
use Rattle.office_events.specs.declared.commands.AddDevice.{AddDevice}
use Rattle.office_events.specs.declared.commands.Command.{Command}
use Rattle.office_events.specs.declared.commands.Command.TheVariants as command
use Rattle.mb_wire.specs.declared.span.ReadSpan.{ReadSpan}
use Rattle.office_events.specs.declared.events.Event.{Event}
use Rattle.office_events.specs.declared.events.Event.TheVariants as event
use Rattle.office_books.specs.Facts.{is_named}

-- A session that ended: a former connection of a device. `restarted` is true if a restart of the
-- program ended the session, instead of the session's last event.
pub record EndedSession : Type 0 where
  pub events : List session.Event
  pub restarted : Bool

-- A device with its ended Modbus sessions (the latest first), and with its present session if it is
-- connected. A session is the list of its events, in order.
pub record Slot : Type 0 where
  pub device : Device
  pub ended : List EndedSession
  pub present : Option (List session.Event)

-- The slot (a device with its Modbus sessions) of the device with a given name, or `None` if no
-- device has the name.
abbrev pub slot_of : List Slot → Option (List ℕ) → Option Slot
slot_of slots given = find (λ slot. is_named given slot.device.name) slots

-- The present Modbus session of the device with a given name. `None` if no device has the name, or
-- the device is not connected.
abbrev pub present_of : List Slot → Option (List ℕ) → Option (List session.Event)
present_of slots given = option_and_then (λ slot. slot.present) (slot_of slots given)

-- The command that an event requests. `None` for a device event or a timer event.
abbrev pub command_in : Event → Option Command
command_in (event.Command c) = Some c
command_in (event.Asked asked) = Some asked.command
command_in _ = None

-- The device on which a command starts polls. `None` if the command starts no polls, or the name is
-- invalid.
abbrev pub started_on : Command → Option (List ℕ)
started_on (command.StartPoll c) = c.device
started_on (command.StartRound c) = c.device
started_on _ = None

-- True if a device is connected, and its Modbus session can start a poll at the time of its last
-- event.
abbrev pub is_startable : Device → Option (List session.Event) → Bool
is_startable device None = false
is_startable device (Some events) =
    is_none (start_fault device.timeout device.window events (last_moment events))

-- A read that is sent: the number of its poll, its transaction identifier, and the Modbus registers
-- to read.
pub record Send : Type 0 where
  pub number : ℕ
  pub id : ℕ
  pub span : ReadSpan

-- The Modbus session event that starts a read at the timestamp `at`.
abbrev pub start_by : (at : ℕ) → Device → Send → session.Event
start_by at device send = session.Start at send.number device.unit (span_view send.span)

-- The reads that a Modbus session can start: the given reads before the first read that the session
-- refuses.
abbrev pub sends_on : (number at : ℕ) → Device → List session.Event → List ReadSpan → List Send
sends_on number at device before [] = []
sends_on number at device before (span ∷ spans) =
    let send : Send = record { number = number; id = session.next_id before; span = span } in
    if is_startable device (Some before)
    then send ∷ sends_on (number + 1) at device (before ++ start_by at device send ∷ []) spans
    else []

-- The reads that the present Modbus session of a device can start. If the device is not connected,
-- the list is empty.
abbrev pub sends_at : (number at : ℕ) → Device → Option (List session.Event) → List ReadSpan
    → List Send
sends_at number at device None spans = []
sends_at number at device (Some before) spans = sends_on number at device before spans

-- The Modbus session events with which a command starts its reads on a device. The list is empty if
-- the command starts no polls on this device.
abbrev pub starts_by : (number at : ℕ) → List ReadSpan → Option Command → Device
    → List session.Event → List session.Event
starts_by number at spans None device before = []
starts_by number at spans (Some c) device before =
    if is_named (started_on c) device.name
    then map (start_by at device) (sends_on number at device before spans) else []

-- The session events that an event of the program causes at a device. A timer event reaches every
-- session. Received bytes and the end of a connection reach only the session of their device. A
-- command that starts polls reaches only the session of the polled device.
--
-- `number` is the number of the next poll, and `spans` are the reads that the event requests.
abbrev pub reaches : (number at : ℕ) → List ReadSpan → Event → Device → List session.Event
    → List session.Event
reaches number at spans (event.Connected given) device before = []
reaches number at spans (event.Bytes given piece) device before =
    if is_named given device.name then session.Piece at piece ∷ [] else []
reaches number at spans event.Tick device before = session.Tick at ∷ []
reaches number at spans (event.Gone given closing) device before =
    if is_named given device.name then session.Close at closing ∷ [] else []
reaches number at spans (event.Command c) device before =
    starts_by number at spans (Some c) device before
reaches number at spans (event.Asked asked) device before =
    starts_by number at spans (Some asked.command) device before

-- True if an event is a new connection of a device.
abbrev pub connects : Event → Device → Bool
connects (event.Connected given) device = is_named given device.name
connects _ device = false

-- True if a Modbus session event ends its session.
abbrev pub is_close : session.Event → Bool
is_close (session.Close moment closing) = true
is_close _ = false

-- The slot (device with its sessions) after further events of the device's present Modbus session.
-- A close event ends the session.
abbrev pub with_happenings : Slot → List session.Event → List session.Event → Slot
with_happenings slot before [] =
    record { device = slot.device; ended = slot.ended; present = Some before }
with_happenings slot before (happening ∷ later) =
    if is_close happening
    then record {
      device = slot.device;
      ended = (record { events = before ++ happening ∷ []; restarted = false }) ∷ slot.ended;
      present = None;
    }
    else with_happenings slot (before ++ happening ∷ []) later

-- The slot (device with its sessions) after an event of the program other than a new connection. A
-- slot without a present session is unchanged.
abbrev pub slot_reached : (number at : ℕ) → List ReadSpan → Event → Slot
    → Option (List session.Event) → Slot
slot_reached number at spans e slot None = slot
slot_reached number at spans e slot (Some before) =
    with_happenings slot before (reaches number at spans e slot.device before)

-- The slot (device with its sessions) after an event of the program. A new connection begins a new
-- session.
abbrev pub slot_after : (number at : ℕ) → List ReadSpan → Event → Slot → Slot
slot_after number at spans e slot =
    if connects e slot.device
    then record { device = slot.device; ended = slot.ended; present = Some [] }
    else slot_reached number at spans e slot slot.present

-- The device that a command adds, or `None` if its name is invalid.
abbrev pub device_by : AddDevice → Option Device
device_by c =
    option_map (λ name.
    record { name = name; unit = c.unit; timeout = c.timeout; window = c.window })
    c.name

-- The slot (a device with its Modbus sessions) of a new device, which is not connected yet. Without
-- a device, the list is empty.
abbrev pub new_slot : Option Device → List Slot
new_slot None = []
new_slot (Some device) = (record { device = device; ended = []; present = None }) ∷ []

-- A list with the slot (a device with its Modbus sessions) of the device that a command adds. If
-- the command adds no device, the list is empty.
abbrev pub slots_added : Option Command → List Slot
slots_added (Some (command.AddDevice c)) = new_slot (device_by c)
slots_added _ = []

-- The slots (devices with their Modbus sessions) after an event: the updated existing slots, then
-- the slot of a device that the event adds.
abbrev pub slots_after : (number at : ℕ) → List ReadSpan → Event → List Slot → List Slot
slots_after number at spans e slots =
    map (slot_after number at spans e) slots ++ slots_added (command_in e)

-- A list with the present Modbus session of a device, as a session that a restart of the program
-- ended. If the device has no session, the list is empty.
abbrev pub ended_by_restart : Option (List session.Event) → List EndedSession
ended_by_restart None = []
ended_by_restart (Some events) = (record { events = events; restarted = true }) ∷ []

-- The slot (a device with its Modbus sessions) after the program restarted. The present session has
-- ended, and the device is not connected.
abbrev pub slot_restarted : Slot → Slot
slot_restarted slot = record {
  device = slot.device;
  ended = ended_by_restart slot.present ++ slot.ended;
  present = None;
}
