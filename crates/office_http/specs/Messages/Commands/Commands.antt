-- The command of each HTTP route, from the members of its JSON body. `name` is the route's
-- parameter: the name of an accounting register (energy counter), or of a meter if the command
-- cancels an entry. `name` is None if the parameter is no valid name.
use Rattle.std.specs.Prelude.{ℕ, List, Option, Some, None, Result, Ok, Err, codes}
use Rattle.serde_json.specs.Data.{Data}
use Rattle.office_http.specs.Messages.Commands.Json.Tables.{close_members, device_members, exchange_members, fault_of, install_members, manual_members, register_fault, rescale_members, reset_members, void_members}
use Rattle.office_http.specs.declared.messages.commands.json.body.BodyFault.{BodyFault}
use Rattle.office_http.specs.declared.messages.commands.json.body.BodyFault.TheVariants.{Malformed}
use Rattle.office_http.specs.declared.messages.routing.routes.Route.{Route}
use Rattle.office_http.specs.declared.messages.routing.routes.Route.TheVariants as route
use Rattle.office_events.specs.declared.commands.Command.{Command}
use Rattle.office_events.specs.declared.commands.Command.TheVariants as command
use Rattle.office_http.specs.Messages.Commands.Values.{integer_in, name_in, natural_in, optional_in, or_full_range, scale_in}

-- The command that adds a device.
abbrev pub add_device : Data → Command
add_device d = command.AddDevice (record {
  name = name_in (codes "name") d;
  unit = natural_in (codes "unit") d;
  timeout = natural_in (codes "timeout") d;
  window = natural_in (codes "window") d;
})

-- The command that adds an accounting register, a named energy counter of a device.
abbrev pub add_register : Data → Command
add_register d = command.AddRegister (record {
  name = name_in (codes "name") d;
  device = name_in (codes "device") d;
  function = natural_in (codes "function") d;
  address = natural_in (codes "address") d;
  scale = scale_in d;
})

-- The command that installs a meter and assigns it to an accounting register (a named energy
-- counter).
abbrev pub install : Option (List ℕ) → Data → Command
install name d = command.Install (record {
  register = name;
  meter = name_in (codes "meter") d;
  raw = natural_in (codes "raw") d;
  sf = integer_in (codes "sf") d;
  ceiling = natural_in (codes "ceiling") d;
  range = or_full_range (optional_in (codes "range") d);
})

-- The command that closes the open meter of an accounting register (a named energy counter), and
-- assigns another meter to the register.
abbrev pub exchange : Option (List ℕ) → Data → Command
exchange name d = command.Exchange (record {
  register = name;
  last = natural_in (codes "last") d;
  rolls = natural_in (codes "rolls") d;
  meter = name_in (codes "meter") d;
  raw = natural_in (codes "raw") d;
  sf = integer_in (codes "sf") d;
  ceiling = natural_in (codes "ceiling") d;
  range = or_full_range (optional_in (codes "range") d);
})

-- The command that records a reset of a meter's counter.
abbrev pub reset : Option (List ℕ) → Data → Command
reset name d = command.Reset (record {
  register = name;
  before = natural_in (codes "before") d;
  after = natural_in (codes "after") d;
})

-- The command that records a meter's change to another counter value and scale.
abbrev pub rescale : Option (List ℕ) → Data → Command
rescale name d = command.Rescale (record {
  register = name;
  before = natural_in (codes "before") d;
  after = natural_in (codes "after") d;
  sf = integer_in (codes "sf") d;
})

-- The command that enters a reading by hand. The reading's timestamp is optional.
abbrev pub manual : Option (List ℕ) → Data → Command
manual name d = command.Manual (record {
  register = name;
  raw = natural_in (codes "raw") d;
  rolls = natural_in (codes "rolls") d;
  at = optional_in (codes "at") d;
})

-- The command that closes a meter with its last reading.
abbrev pub close : Option (List ℕ) → Data → Command
close name d = command.Close (record {
  register = name;
  raw = natural_in (codes "raw") d;
  rolls = natural_in (codes "rolls") d;
})

-- The command that voids (cancels) an entry of a meter: the entry was false and no longer counts.
abbrev pub void : Option (List ℕ) → Data → Command
void name d = command.Void (record {
  meter = name;
  place = natural_in (codes "place") d;
})

-- The parsed command if its JSON body has no fault, otherwise the fault.
abbrev pub unless_fault : Option BodyFault → Command → Result Command BodyFault
unless_fault None c = Ok c
unless_fault (Some fault) c = Err fault

-- The command in the JSON body of a request with the given route, or the fault of the body. The
-- result is `Malformed` for routes of queries, and for the route whose body is CSV.
abbrev pub command_of : Route → Option (List ℕ) → Data → Result Command BodyFault
command_of route.Devices name d = unless_fault (fault_of device_members d) (add_device d)
command_of route.List name d = Err Malformed
command_of route.Registers name d = unless_fault (register_fault d) (add_register d)
command_of route.Install name d = unless_fault (fault_of install_members d) (install name d)
command_of route.Exchange name d = unless_fault (fault_of exchange_members d) (exchange name d)
command_of route.Reset name d = unless_fault (fault_of reset_members d) (reset name d)
command_of route.Rescale name d = unless_fault (fault_of rescale_members d) (rescale name d)
command_of route.Manual name d = unless_fault (fault_of manual_members d) (manual name d)
command_of route.Close name d = unless_fault (fault_of close_members d) (close name d)
command_of route.Void name d = unless_fault (fault_of void_members d) (void name d)
command_of route.Days name d = Err Malformed
command_of route.Meter name d = Err Malformed
command_of route.Intervals name d = Err Malformed
command_of route.Poll name d = Err Malformed
