-- The Modbus reads that are started on a device's Modbus session, with their poll records, their
-- request frames and the resulting session.
use Rattle.std.specs.Prelude.{◌≡◌, ◌≤◌, ℕ, List, ◌++◌, map, length, Option, Some, None, Result, IfOk}
use Rattle.std.specs.List.{flat_map}
use Rattle.std.specs.declared.alloc.AllocError.{AllocError}
use Rattle.std.specs.declared.alloc.Global.{Global}
use Rattle.std.specs.declared.vec.Vec.{Vec}
use Rattle.mb_wire.specs.declared.span.ReadSpan.{ReadSpan}
use Rattle.poll_core.specs.Settling as session
use Rattle.poll_core.specs.Standing.{State, last_moment}
use Rattle.office_core.specs.Sessions.Keeping.{KeepsSession}
use Rattle.office_core.specs.Sessions.Moments.{none_later}
use Rattle.office_events.specs.declared.facts.Device.{Device}
use Rattle.office_events.specs.declared.facts.Fact.{Fact}
use Rattle.office_books.specs.Sessions.{Slot, Send, start_by, sends_on, sends_at, with_happenings}
use Rattle.office_books.specs.History.{poll_by}
use Rattle.office_books.specs.Notes.{frame_of}

-- The longest prefix of the given reads that can be started on the device's Modbus session. The
-- prefix is empty if the device has no session.
abbrev pub sends_of : (number at : ℕ) → List ReadSpan → Slot → List Send
sends_of number at spans slot = sends_at number at slot.device slot.present spans

-- The poll records of the Modbus reads that can be started on the session of the device slot (a
-- device with its connection).
abbrev pub polls_of : (number at : ℕ) → List ReadSpan → Slot → List Fact
polls_of number at spans slot = map (poll_by at slot.device) (sends_of number at spans slot)

-- The bytes of the request frames for the Modbus reads that can be started on the session of the
-- device slot (a device with its connection).
abbrev pub frames_of : (number at : ℕ) → List ReadSpan → Slot → List ℕ
frames_of number at spans slot = flat_map (frame_of slot.device) (sends_of number at spans slot)

-- The device slot (a device with its connection) after the given reads are started on its Modbus
-- session. A slot without a session is unchanged.
abbrev pub sent_from : (at : ℕ) → Slot → List Send → Option (List session.Event) → Slot
sent_from at slot sends None = slot
sent_from at slot sends (Some before) =
    with_happenings slot before (map (start_by at slot.device) sends)

-- The device slot (a device with its connection) after as many of the given reads as its Modbus
-- session allows were started on this session.
abbrev pub slot_sent : (number at : ℕ) → List ReadSpan → Slot → Slot
slot_sent number at spans slot = sent_from at slot (sends_of number at spans slot) slot.present

-- True if exactly the given number of the given reads can be started on the Modbus session, for any
-- next poll number and timestamp.
abbrev pub CountsSends : (device : Device) (kept : State) → List ReadSpan → ℕ → Type 0
CountsSends device kept spans count =
    (number at : ℕ) (events : List session.Event) → KeepsSession device kept events
    → count ≡ length (sends_on number at device events spans)

-- True if a function's successful result is the list of the poll records for those of the given
-- Modbus reads that can be started on the device's session.
abbrev pub GivesPolls : (device : Device) (kept : State) → (number at : ℕ) → List ReadSpan
    → Result (Vec Fact Global) AllocError → Type 0
GivesPolls device kept number at spans result =
    (events : List session.Event) → KeepsSession device kept events → IfOk result (λ facts.
    facts.items ≡ map (poll_by at device) (sends_on number at device events spans))

-- States a property of the Modbus session's events and of the reads that the session can start at
-- `at`. The statement applies if no event of the session is later than `at`.
abbrev pub WhereSent : (device : Device) (kept : State) → (number at : ℕ) → List ReadSpan
    → (List session.Event → List Send → Type 0) → Type 0
WhereSent device kept number at spans so =
    (events : List session.Event) → KeepsSession device kept events → last_moment events ≤ at
    → so events (sends_on number at device events spans)

-- True if the Modbus session's state equals the state after the given events and after the start of
-- the given reads at timestamp `at`.
abbrev pub KeepsStarts : (device : Device) (at : ℕ) (kept : State) → List session.Event → List Send
    → Type 0
KeepsStarts device at kept events sends =
    KeepsSession device kept (events ++ map (start_by at device) sends)

-- True if no event of the Modbus session of the device slot (a device with its connection) is later
-- than the timestamp.
abbrev pub IsBefore : ℕ → Slot → Type 0
IsBefore at slot = none_later at slot.present
