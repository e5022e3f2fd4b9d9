-- The theorem that a request's body always parses to the same command or fault, unless memory runs
-- out.
use Rattle.std.specs.Prelude.{◌≡◌, ◌≢◌, ℕ, List, Option, Result, Err}
use Rattle.office_http.specs.Messages.Commands.Given.{Gives}
use Rattle.office_http.specs.declared.messages.commands.fault.CommandFault.{CommandFault}
use Rattle.office_http.specs.declared.messages.commands.fault.CommandFault.TheVariants.{Memory}
use Rattle.office_http.specs.declared.messages.routing.routes.Route.{Route}
use Rattle.office_events.specs.declared.commands.Command.{Command}

-- States that two results of parsing the same body for the same route are equal, if memory ran out
-- in neither case.
abbrev pub BodiesGiveOne : Type 0
BodiesGiveOne =
    (at : Route) (name : Option (List ℕ)) (body : List ℕ) (one other : Result Command CommandFault)
    → Gives at name body one → Gives at name body other
    → one ≢ Err Memory → other ≢ Err Memory → one ≡ other
