-- The result of parsing a request's body: a command, or the fault of the body.
use Rattle.std.specs.Prelude.{◌≡◌, ◌⊎◌, ℕ, List, Option, Some, Result, Ok, Err, IsUtf8}
use Rattle.serde_json.specs.Data.{Data}
use Rattle.serde_json.specs.Read.{read}
use Rattle.office_http.specs.declared.messages.commands.json.body.BodyFault.{BodyFault}
use Rattle.office_http.specs.declared.messages.commands.json.body.BodyFault.TheVariants as body
use Rattle.office_http.specs.declared.messages.routing.routes.Route.{Route}
use Rattle.office_http.specs.declared.messages.routing.routes.Route.TheVariants as route
use Rattle.office_events.specs.declared.commands.Command.{Command}
use Rattle.office_events.specs.declared.commands.Command.TheVariants.{PutList}
use Rattle.read_plan.specs.PlannedLists.{IsPlanned, Planned}
use Rattle.point_list.specs.Lists.{AreFaults, SpellsList, list_faults, rows_read}
use Rattle.office_http.specs.Messages.Commands.Commands.{command_of}
use Rattle.office_http.specs.declared.messages.commands.fault.CommandFault.{CommandFault}
use Rattle.office_http.specs.declared.messages.commands.fault.CommandFault.TheVariants.{Malformed, Negative, Faulty, Memory}

-- True if the bytes are a JSON text (RFC 8259) with the value `d`.
pub record IsJson (bytes : List ℕ) (d : Data) : Type 0 where
  pub utf8 : IsUtf8 bytes
  pub value : read bytes ≡ Some d

-- The fault of a command, converted from the fault of its JSON body.
abbrev pub fault_reported : BodyFault → CommandFault
fault_reported body.Malformed = Malformed
fault_reported body.Negative = Negative
fault_reported body.Memory = Memory

-- The command or the fault of a request, converted from the result of parsing its JSON body.
abbrev pub reported : Result Command BodyFault → Result Command CommandFault
reported (Ok c) = Ok c
reported (Err fault) = Err (fault_reported fault)

-- True if the bytes are a JSON text, and the result is the command or the fault in its value.
pub record GivesJson (at : Route) (name : Option (List ℕ)) (bytes : List ℕ)
    (given : Result Command CommandFault) : Type 0 where
  pub value : Data
  pub is : IsJson bytes value
  pub gives : given ≡ reported (command_of at name value)

-- True if the bytes of a command's body are not a JSON text, and `Malformed` is the result of
-- parsing them.
pub record IsNoJson (bytes : List ℕ) (given : Result Command CommandFault) : Type 0 where
  pub none : (d : Data) → IsJson bytes d → ⊥
  pub gives : given ≡ Err Malformed

-- True if the result is possible for parsing the given bytes as a JSON body. The result `Memory`
-- (out of memory) is possible for any bytes.
abbrev pub IsBody : Route → Option (List ℕ) → (bytes : List ℕ) → Result Command CommandFault
    → Type 0
IsBody at name bytes given =
    GivesJson at name bytes given ⊎ IsNoJson bytes given ⊎ (given ≡ Err Memory)

-- True if the bytes are a point list (CSV rows with the registers to poll), and the command stores
-- this list with its reading plan. The plan is the fewest Modbus reads that cover the list.
pub record GivesList (name : Option (List ℕ)) (bytes : List ℕ) (c : Command) : Type 0 where
  pub list : Planned
  pub spelled : SpellsList bytes list.points
  pub planned : IsPlanned list
  pub is : c ≡ PutList (record { device = name; list = list })

-- True if the result is possible for parsing the given bytes as a point list (CSV rows with the
-- registers to poll). The result `Memory` (out of memory) is possible for any bytes.
abbrev pub IsListBody : Option (List ℕ) → (bytes : List ℕ) → Result Command CommandFault → Type 0
IsListBody name bytes (Ok c) = GivesList name bytes c
IsListBody name bytes (Err Malformed) = ⊥
IsListBody name bytes (Err Negative) = ⊥
IsListBody name bytes (Err (Faulty rows)) = AreFaults (list_faults (rows_read bytes)) rows
IsListBody name bytes (Err Memory) = Unit {0}

-- True if the result is possible for parsing these bytes as the body of a request with the given
-- route. The result `Memory` (out of memory) is possible for any bytes.
abbrev pub Gives : Route → Option (List ℕ) → (bytes : List ℕ) → Result Command CommandFault → Type 0
Gives route.List name bytes given = IsListBody name bytes given
Gives route.Devices name bytes given = IsBody route.Devices name bytes given
Gives route.Registers name bytes given = IsBody route.Registers name bytes given
Gives route.Install name bytes given = IsBody route.Install name bytes given
Gives route.Exchange name bytes given = IsBody route.Exchange name bytes given
Gives route.Reset name bytes given = IsBody route.Reset name bytes given
Gives route.Rescale name bytes given = IsBody route.Rescale name bytes given
Gives route.Manual name bytes given = IsBody route.Manual name bytes given
Gives route.Close name bytes given = IsBody route.Close name bytes given
Gives route.Void name bytes given = IsBody route.Void name bytes given
Gives route.Days name bytes given = IsBody route.Days name bytes given
Gives route.Meter name bytes given = IsBody route.Meter name bytes given
Gives route.Intervals name bytes given = IsBody route.Intervals name bytes given
Gives route.Poll name bytes given = IsBody route.Poll name bytes given
