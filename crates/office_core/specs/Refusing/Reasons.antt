-- The reasons to refuse a command, given its timestamp and idempotency key.
use Rattle.std.specs.Prelude.{◌≡◌, ℕ, Bool, false, ◌||◌, List, Option, Some, None, is_none, nat_lt}
use Rattle.std.specs.List.{find}
use Rattle.office_events.specs.declared.commands.Command.{Command}
use Rattle.office_events.specs.declared.events.Asked.{Asked}
use Rattle.office_events.specs.declared.facts.Fact.{Fact}
use Rattle.office_events.specs.declared.refusals.Refusal.{Refusal}
use Rattle.office_events.specs.declared.refusals.Refusal.TheVariants as refusal
use Rattle.office_books.specs.Facts.{moment_limit, request_limit}
use Rattle.office_books.specs.Sessions as sessions
use Rattle.office_books.specs.Refusals.{asks_wrongly, reasons}
use Rattle.office_core.specs.declared.sessions.slots.Slot.{Slot}
use Rattle.office_core.specs.Sessions.Keeping.{KeepsSlots}
use Rattle.office_core.specs.declared.refusing.arrivals.Arrival.{Arrival}
use Rattle.office_core.specs.Refusing.Asking.{IsOfEvent}
use Rattle.office_core.specs.Sessions.Ranges.{IsCommandInRange}

-- The timestamp `at` of an event, with two checks: whether it is before the latest accepted event,
-- and whether it is above the greatest allowed timestamp.
abbrev pub arrival_of : (latest at : ℕ) → Arrival
arrival_of latest at =
    record { moment = at; is_back = nat_lt at latest; is_beyond = nat_lt moment_limit at }

-- The timestamp `at` of a request with an idempotency key, with the results of two checks. The
-- check of the greatest timestamp also fails if the key's caller name is invalid or its number
-- exceeds its limit.
abbrev pub request_arrival : (latest at : ℕ) → Asked → Arrival
request_arrival latest at asked = record {
  moment = at;
  is_back = nat_lt at latest;
  is_beyond = nat_lt moment_limit at || is_none asked.caller || nat_lt request_limit asked.number;
}

-- True if the given reason to refuse applies because of the command's timestamp or idempotency key.
abbrev pub comes_wrongly : Arrival → Refusal → Bool
comes_wrongly arrival refusal.ClockBack = arrival.is_back
comes_wrongly arrival refusal.Limit = arrival.is_beyond
comes_wrongly arrival _ = false

-- True if the given reason to refuse applies to the command, because of its timestamp, its
-- idempotency key or its content.
abbrev pub speaks_against : List sessions.Slot → List Fact → Arrival → Command → Refusal → Bool
speaks_against slots facts arrival c why =
    comes_wrongly arrival why || asks_wrongly slots facts arrival.moment c why

-- The first reason in the list `reasons` for which the specification refuses the command, or `None`
-- if it accepts the command.
abbrev pub refusal_under : List sessions.Slot → List Fact → Arrival → Command → Option Refusal
refusal_under slots facts arrival c = find (speaks_against slots facts arrival c) reasons

-- True if a decision on the command (a reason to refuse it, or none) follows from the specification
-- and the given records. The state of the devices' connections does not matter.
abbrev pub IsWhy : Arrival → Command → List Fact → Option Refusal → Type 0
IsWhy arrival c facts r = (slots : List sessions.Slot) → r ≡ refusal_under slots facts arrival c

-- True if a decision on the command (a reason to refuse it, or none) is what the specification
-- gives for the given records and device connections.
abbrev pub IsWhyAmong : List Slot → Arrival → Command → List Fact → Option Refusal → Type 0
IsWhyAmong kept arrival c facts r =
    (slots : List sessions.Slot) → KeepsSlots kept slots → r ≡ refusal_under slots facts arrival c

-- True if the command's timestamp is not before the latest event and not above the greatest allowed
-- timestamp, and the command's numbers are in the ranges permitted for them.
pub record ComesInRange (arrival : Arrival) (c : Command) : Type 0 where
  pub not_back : arrival.is_back ≡ false
  pub within : arrival.is_beyond ≡ false
  pub command : IsCommandInRange arrival.moment c

-- True if the result of checking a command is possible for the command. If the command was
-- accepted, its timestamp and its values are in the ranges permitted for them. If it was refused,
-- the reason lies in the event itself, not in a failure or a stopped program.
abbrev pub Befits : Arrival → Command → Option Refusal → Type 0
Befits arrival c None = ComesInRange arrival c
Befits arrival c (Some why) = IsOfEvent why

-- True if the given reason to refuse applies to a device event. The possible reasons are a wrong
-- timestamp, an unknown device, a connected device that connects again, and another event of a
-- device that is not connected.
abbrev pub speaks_of_session : Arrival → (is_unknown is_busy : Bool) → Refusal → Bool
speaks_of_session arrival is_unknown is_busy refusal.NotFound = is_unknown
speaks_of_session arrival is_unknown is_busy refusal.Busy = is_busy
speaks_of_session arrival is_unknown is_busy why = comes_wrongly arrival why

-- The first reason to refuse a device event, or `None` if no reason applies.
abbrev pub session_refusal : Arrival → (is_unknown is_busy : Bool) → Option Refusal
session_refusal arrival is_unknown is_busy =
    find (speaks_of_session arrival is_unknown is_busy) reasons
