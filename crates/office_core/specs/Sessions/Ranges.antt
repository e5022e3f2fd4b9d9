-- The permitted ranges of the numbers in an accepted event.
use Rattle.std.specs.Prelude.{◌≡◌, ℕ, ◌≤◌, true, false, Option, Some, None, is_some}
use Rattle.energy_core.specs.declared.limits.TheConstants.{MAX_SHOWN}
use Rattle.office_events.specs.declared.commands.Command.{Command}
use Rattle.office_events.specs.declared.commands.Command.TheVariants as command
use Rattle.office_events.specs.declared.events.Event.{Event}
use Rattle.office_events.specs.declared.events.Event.TheVariants as event
use Rattle.office_books.specs.Facts.{moment_limit, request_limit}
use Rattle.office_books.specs.Sessions.{command_in}
use Rattle.office_books.specs.Refusals.{asks_bad_scale, asks_bad_field}

-- True if each counter value in the command fits a 32-bit counter.
abbrev pub FitsCounter : Command → Type 0
FitsCounter (command.Exchange c) = c.last ≤ MAX_SHOWN
FitsCounter (command.Reset c) = (c.before ≤ MAX_SHOWN) × (c.after ≤ MAX_SHOWN)
FitsCounter (command.Rescale c) = (c.before ≤ MAX_SHOWN) × (c.after ≤ MAX_SHOWN)
FitsCounter (command.Manual c) = c.raw ≤ MAX_SHOWN
FitsCounter (command.Close c) = c.raw ≤ MAX_SHOWN
FitsCounter _ = Unit {0}

-- True if the scale factors, counter values and other numbers of the command are in range.
pub record IsCommandInRange (at : ℕ) (c : Command) : Type 0 where
  pub scale : asks_bad_scale c ≡ false
  pub field : asks_bad_field at c ≡ false
  pub counter : FitsCounter c

-- True if the numbers of the event's command, if any, are in range.
abbrev pub AsksInRange : (at : ℕ) → Option Command → Type 0
AsksInRange at None = Unit {0}
AsksInRange at (Some c) = IsCommandInRange at c

-- True if the event's idempotency key, if any, has a valid caller name and a number within its
-- limit.
abbrev pub IsRequestInRange : Event → Type 0
IsRequestInRange (event.Asked asked) =
    (is_some asked.caller ≡ true) × (asked.number ≤ request_limit)
IsRequestInRange _ = Unit {0}

-- True if the event's timestamp is at most the limit and not before the latest accepted event, and
-- the event's numbers are in range.
pub record IsInRange (latest at : ℕ) (e : Event) : Type 0 where
  pub not_back : latest ≤ at
  pub moment : at ≤ moment_limit
  pub command : AsksInRange at (command_in e)
  pub request : IsRequestInRange e
