-- The records that a command adds to the store.
use Rattle.std.specs.Prelude.{◌≡◌, ℕ, List, Option}
use Rattle.std.specs.Option.{option_map, option_and_then}
use Rattle.office_events.specs.declared.commands.Command.{Command}
use Rattle.office_events.specs.declared.commands.AddRegister.{AddRegister}
use Rattle.office_events.specs.declared.commands.PutList.{PutList}
use Rattle.office_events.specs.declared.commands.VoidEntry.{VoidEntry}
use Rattle.office_events.specs.declared.facts.Fact.{Fact}
use Rattle.office_events.specs.declared.facts.Fact.TheVariants as fact
use Rattle.office_books.specs.Sessions as sessions
use Rattle.office_books.specs.History as history

-- True if executing the command adds the records `facts` to the records `known`, for any state of
-- the device connections and any next poll number.
abbrev pub AreAdded : (at : ℕ) → Command → (known facts : List Fact) → Type 0
AreAdded at c known facts =
    (number : ℕ) (slots : List sessions.Slot) → facts ≡ history.added_by number at slots known c

-- The record that a command to void (cancel) a meter entry adds, or `None` if the meter's name is
-- invalid.
abbrev pub void_by : (at : ℕ) → VoidEntry → Option Fact
void_by at c =
    option_map (λ meter. fact.Void (record { meter = meter; place = c.place; at = at })) c.meter

-- The record of the point list (the Modbus registers to read) that a command sets, or `None` if the
-- device's name is invalid.
abbrev pub list_by : PutList → Option Fact
list_by c = option_map (λ device. fact.List (record { device = device; list = c.list })) c.device

-- The record of the accounting register (a named energy counter) that a command adds, or `None` if
-- a name is invalid.
abbrev pub register_by : AddRegister → Option Fact
register_by c =
    option_and_then (λ name. option_map (λ device. history.register_by c name device) c.device)
    c.name
