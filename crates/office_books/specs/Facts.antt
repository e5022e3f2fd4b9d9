-- The records of the store, and lookups that filter them. The latest record comes first.
use Rattle.std.specs.Prelude.{ℕ, ◌==◌, max, Bool, false, ◌&&◌, List, [], ◌∷◌, reverse, length, Option, Some, None}
use Rattle.std.specs.Option.{option_and_then}
use Rattle.std.specs.List.{find, filter, filter_map}
use Rattle.std.specs.Str.{bytes_eq}
use Rattle.poll_core.specs.declared.limits.TheConstants.{LAST_MOMENT}
use Rattle.energy_core.specs.Account.{moment_of}
use Rattle.office_events.specs.declared.limits.TheConstants.{MAX_POLLS, MAX_REQUEST}
use Rattle.office_events.specs.declared.facts.Device.{Device}
use Rattle.office_events.specs.declared.facts.Register.{Register}
use Rattle.office_events.specs.declared.facts.Opening.{Opening}
use Rattle.office_events.specs.declared.facts.Poll.{Poll}
use Rattle.office_events.specs.declared.facts.EndedPoll.{EndedPoll}
use Rattle.office_events.specs.declared.facts.BookedEntry.{BookedEntry}
use Rattle.office_events.specs.declared.facts.HeldReading.{HeldReading}
use Rattle.office_events.specs.declared.facts.DeviceList.{DeviceList}
use Rattle.office_events.specs.declared.facts.VoidedEntry.{VoidedEntry}
use Rattle.office_events.specs.declared.facts.Reply.{Reply}
use Rattle.office_events.specs.declared.facts.Fact.{Fact}
use Rattle.read_plan.specs.PlannedLists.{Planned}
use Rattle.point_list.specs.declared.point.ListedPoint.{ListedPoint}
use Rattle.office_events.specs.declared.facts.Fact.TheVariants as fact

-- The greatest timestamp that the program accepts: 2099-12-31 24:00 UTC.
abbrev pub moment_limit : ℕ
moment_limit = LAST_MOMENT

-- The greatest number of a poll: 2^62.
abbrev pub poll_limit : ℕ
poll_limit = MAX_POLLS

-- The greatest number in an idempotency key of a request: 2^63 - 1.
abbrev pub request_limit : ℕ
request_limit = MAX_REQUEST

-- True if two names are equal, which means that their bytes are equal.
abbrev pub same : List ℕ → List ℕ → Bool
same a b = bytes_eq a b

-- True if a name in a command equals a stored name. An invalid name in a command (`None`) equals no
-- stored name.
abbrev pub is_named : Option (List ℕ) → List ℕ → Bool
is_named None name = false
is_named (Some given) name = same given name

-- The content of a record if the record has the kind that the function's name states (such as a
-- device), otherwise `None`.
abbrev pub as_device : Fact → Option Device
as_device (fact.Device device) = Some device
as_device _ = None

abbrev pub as_register : Fact → Option Register
as_register (fact.Register register) = Some register
as_register _ = None

abbrev pub as_opening : Fact → Option Opening
as_opening (fact.Opening opening) = Some opening
as_opening _ = None

abbrev pub as_entry : Fact → Option BookedEntry
as_entry (fact.Entry booked) = Some booked
as_entry _ = None

abbrev pub as_hold : Fact → Option HeldReading
as_hold (fact.Hold held) = Some held
as_hold _ = None

abbrev pub as_list : Fact → Option DeviceList
as_list (fact.List list) = Some list
as_list _ = None

abbrev pub as_void : Fact → Option VoidedEntry
as_void (fact.Void voided) = Some voided
as_void _ = None

abbrev pub as_reply : Fact → Option Reply
as_reply (fact.Reply reply) = Some reply
as_reply _ = None

abbrev pub as_poll : Fact → Option Poll
as_poll (fact.Poll poll) = Some poll
as_poll _ = None

abbrev pub as_ended : Fact → Option EndedPoll
as_ended (fact.Outcome ended) = Some ended
as_ended _ = None

-- The contents of all records of the kind that the function's name states (such as devices), as in
-- a database table. The latest record comes first.
abbrev pub devices_in : List Fact → List Device
devices_in facts = filter_map as_device facts

abbrev pub registers_in : List Fact → List Register
registers_in facts = filter_map as_register facts

abbrev pub openings_in : List Fact → List Opening
openings_in facts = filter_map as_opening facts

abbrev pub entries_in : List Fact → List BookedEntry
entries_in facts = filter_map as_entry facts

abbrev pub holds_in : List Fact → List HeldReading
holds_in facts = filter_map as_hold facts

abbrev pub lists_in : List Fact → List DeviceList
lists_in facts = filter_map as_list facts

abbrev pub voids_in : List Fact → List VoidedEntry
voids_in facts = filter_map as_void facts

abbrev pub replies_in : List Fact → List Reply
replies_in facts = filter_map as_reply facts

abbrev pub polls_in : List Fact → List Poll
polls_in facts = filter_map as_poll facts

abbrev pub ended_in : List Fact → List EndedPoll
ended_in facts = filter_map as_ended facts

-- Lookups by name: the device, the accounting register (a named energy counter), or the meter's
-- opening (installation record) with the given name. `None` if no record has the name.
abbrev pub device_of : List Fact → List ℕ → Option Device
device_of facts name = find (λ device. same device.name name) (devices_in facts)

abbrev pub register_of : List Fact → List ℕ → Option Register
register_of facts name = find (λ register. same register.name name) (registers_in facts)

abbrev pub opening_of : List Fact → List ℕ → Option Opening
opening_of facts meter = find (λ opening. same opening.meter meter) (openings_in facts)

-- The accounting registers (energy counters) of the device with the given name, in the order in
-- which they were added.
abbrev pub registers_of : List Fact → List ℕ → List Register
registers_of facts device =
    reverse (filter (λ register. same register.device device) (registers_in facts))

-- The opening (installation record) of the latest meter that was installed at the accounting
-- register (a named energy counter) with the given name. `None` if no meter was installed there.
abbrev pub installed_at : List Fact → List ℕ → Option Opening
installed_at facts register = find (λ opening. same opening.register register) (openings_in facts)

-- A device's point list `list` with the points `points`, or `None` if it has no points.
abbrev pub if_some : List ListedPoint → Planned → Option Planned
if_some [] list = None
if_some (point ∷ points) list = Some list

-- The latest point list (the Modbus registers to read) of the device with the given name, or
-- `None`. A list without points counts as no list.
abbrev pub list_of : List Fact → List ℕ → Option Planned
list_of facts device =
    option_and_then (λ put. if_some put.list.points put.list)
    (find (λ put. same put.device device) (lists_in facts))

-- The stored response to the request with the idempotency key `caller` and `number`.
abbrev pub reply_of : List Fact → (caller : List ℕ) → (number : ℕ) → Option Reply
reply_of facts caller number =
    find (λ reply. same reply.caller caller && (reply.number == number)) (replies_in facts)

-- The poll with the given number, or `None` if no such poll was started.
abbrev pub poll_of : List Fact → ℕ → Option Poll
poll_of facts number = find (λ poll. poll.number == number) (polls_in facts)

-- All recorded outcomes of the poll with the given number.
abbrev pub ends_of : List Fact → ℕ → List EndedPoll
ends_of facts number = filter (λ ended. ended.poll == number) (ended_in facts)

-- The latest recorded outcome of the poll with the given number, or `None` without an outcome.
abbrev pub end_of : List Fact → ℕ → Option EndedPoll
end_of facts number = find (λ ended. ended.poll == number) (ended_in facts)

-- The polls without a recorded outcome, in the order in which they were started.
abbrev pub pending_in : List Fact → List Poll
pending_in facts =
    filter (λ poll. length (ends_of facts poll.number) == 0) (reverse (polls_in facts))

-- The timestamp of a record, or 0 for a device, a point list or an accounting register (a named
-- energy counter), which have no timestamp.
abbrev pub moment_in : Fact → ℕ
moment_in (fact.Device device) = 0
moment_in (fact.List list) = 0
moment_in (fact.Register register) = 0
moment_in (fact.Opening opening) = opening.at
moment_in (fact.Entry booked) = moment_of booked.entry
moment_in (fact.Hold held) = held.at
moment_in (fact.Void voided) = voided.at
moment_in (fact.Poll poll) = poll.at
moment_in (fact.Outcome ended) = ended.at
moment_in (fact.Reply reply) = reply.at

-- The greatest timestamp of all records, or 0 without records.
abbrev pub latest_in : List Fact → ℕ
latest_in [] = 0
latest_in (f ∷ facts) = max (moment_in f) (latest_in facts)
