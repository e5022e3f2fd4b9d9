-- The events on which the program decides without a query of the store, and the reasons to refuse
-- device events.
use Rattle.office_events.specs.declared.commands.Command.{Command}
use Rattle.office_events.specs.declared.commands.Command.TheVariants as command
use Rattle.office_events.specs.declared.events.Event.{Event}
use Rattle.office_events.specs.declared.events.Event.TheVariants as event
use Rattle.office_events.specs.declared.refusals.Refusal.{Refusal}
use Rattle.office_events.specs.declared.refusals.Refusal.TheVariants as refusal
use Rattle.office_events.specs.declared.refusals.StoreCause.{StoreCause}
use Rattle.office_events.specs.declared.refusals.StoreCause.TheVariants as store

-- True if the program decides from the devices and their connections in memory, without a query of
-- the store, whether to refuse the command.
abbrev pub IsOfDevices : Command → Type 0
IsOfDevices (command.AddDevice c) = Unit {0}
IsOfDevices (command.PutList c) = Unit {0}
IsOfDevices _ = ⊥

-- True if the program decides from the devices and their connections in memory, without a query of
-- the store, whether to refuse the event.
abbrev pub AsksNoBooks : Event → Type 0
AsksNoBooks (event.Connected given) = Unit {0}
AsksNoBooks (event.Bytes given piece) = Unit {0}
AsksNoBooks event.Tick = Unit {0}
AsksNoBooks (event.Gone given closing) = Unit {0}
AsksNoBooks (event.Command c) = IsOfDevices c
AsksNoBooks (event.Asked asked) = IsOfDevices asked.command

-- True if the event is from a device or its connection, or a timer event, but not a command.
abbrev pub IsOfDevice : Event → Type 0
IsOfDevice (event.Connected given) = Unit {0}
IsOfDevice (event.Bytes given piece) = Unit {0}
IsOfDevice event.Tick = Unit {0}
IsOfDevice (event.Gone given closing) = Unit {0}
IsOfDevice (event.Command c) = ⊥
IsOfDevice (event.Asked asked) = ⊥

-- True if the program may refuse a device event or a timer event for the given reason.
abbrev pub IsOfSession : Refusal → Type 0
IsOfSession refusal.NotFound = Unit {0}
IsOfSession refusal.ClockBack = Unit {0}
IsOfSession refusal.Busy = Unit {0}
IsOfSession refusal.Limit = Unit {0}
IsOfSession _ = ⊥

-- True if the cause of a refusal is that all poll numbers are used, which is not a failure of the
-- store.
abbrev pub IsFull : StoreCause → Type 0
IsFull store.Refused = Unit {0}
IsFull _ = ⊥

-- True if the event itself is the reason for the refusal. The reason is not a failure, a stopped
-- program (which refuses everything) or a reused idempotency key.
abbrev pub IsOfEvent : Refusal → Type 0
IsOfEvent (refusal.Store why) = IsFull why
IsOfEvent refusal.Memory = ⊥
IsOfEvent refusal.Stopped = ⊥
IsOfEvent refusal.Reused = ⊥
IsOfEvent _ = Unit {0}
