-- Kinds of events: events that may end polls, and events that request a command.
use Rattle.std.specs.Prelude.{Bool, true, false}
use Rattle.office_events.specs.declared.events.Event.{Event}
use Rattle.office_events.specs.declared.events.Event.TheVariants as event

-- True if the event requests a command, with or without an idempotency key.
abbrev pub is_command : Event → Bool
is_command (event.Connected given) = false
is_command (event.Bytes given piece) = false
is_command event.Tick = false
is_command (event.Gone given closing) = false
is_command (event.Command c) = true
is_command (event.Asked asked) = true

-- True if the event may end polls: bytes from a device, the end of a connection, or a timer event.
abbrev pub may_settle : Event → Bool
may_settle (event.Connected given) = false
may_settle (event.Bytes given piece) = true
may_settle event.Tick = true
may_settle (event.Gone given closing) = true
may_settle (event.Command c) = false
may_settle (event.Asked asked) = false
