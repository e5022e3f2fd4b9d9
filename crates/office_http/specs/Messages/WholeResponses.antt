-- The response to the received bytes, if they hold a complete request or an invalid head.
-- Incomplete bytes have no response.
use Rattle.std.specs.Prelude.{◌≡◌, ◌≢◌, ◌⊎◌, ℕ, false, List, Some, None, Result, Err, if◌then◌else◌}
use Rattle.office_http.specs.Messages.Commands.Given.{Gives}
use Rattle.office_http.specs.declared.messages.commands.fault.CommandFault.{CommandFault}
use Rattle.office_http.specs.declared.messages.commands.fault.CommandFault.TheVariants.{Memory}
use Rattle.office_http.specs.Messages.Head.Heads.{IsBadHead, is_past_limits}
use Rattle.office_http.specs.declared.messages.head.head.Head.{Head}
use Rattle.office_http.specs.Messages.HeadTests.{Start, head_fault, start_at}
use Rattle.office_http.specs.Messages.Routing.Routes.{Table}
use Rattle.office_http.specs.Messages.Routing.Targets.{is_question, name_in, route_in}
use Rattle.office_http.specs.declared.messages.routing.routes.Route.{Route}
use Rattle.office_http.specs.declared.messages.status.Status.{Status}
use Rattle.office_http.specs.declared.messages.status.Status.TheVariants.{BadRequest, FieldsTooLarge}
use Rattle.office_http.specs.Messages.Whole.Whole.{HoldsRequest, body_of}
use Rattle.office_events.specs.declared.commands.Command.{Command}
use Rattle.office_http.specs.Messages.Offices.{Office}
use Rattle.office_http.specs.Messages.Replies.{ask, command_reply, fault, reply_bytes, reply_of}
use Rattle.office_http.specs.Messages.Requests.{name_asked}

-- True if the head of the request passes all tests, and the request's target has the given route,
-- which is the route of a command.
pub record IsCommand (table : Table) (start : Start) (route : Route) : Type 0 where
  pub passes : head_fault table start ≡ None
  pub leads : route_in table start.target ≡ Some route
  pub changes : is_question route ≡ false

-- States that if the request is a command, its body parses to `given`, a command or a fault other
-- than `Memory`. Running out of memory is no property of the body.
abbrev pub BodyGives : Table → Start → (body : List ℕ) → Result Command CommandFault → Type 0
BodyGives table start body given =
    (route : Route) → IsCommand table start route
    → Gives route (name_asked (name_in table start.target)) body given × (given ≢ Err Memory)

-- True if the bytes have a complete request, and `reply` is the response to that request.
pub record RepliesToRequest (office : Office) (table : Table) (bytes reply : List ℕ) : Type 0 where
  pub start : Start
  pub body : List ℕ
  pub holds : HoldsRequest table bytes start body
  pub given : Result Command CommandFault
  pub gives : BodyGives table start body given
  pub is : reply ≡ reply_bytes (reply_of office table start body given)

-- The status for an invalid request head: 431 for a head past the limits, otherwise 400.
abbrev pub bad_head_status : List ℕ → Status
bad_head_status bytes = if is_past_limits bytes then FieldsTooLarge else BadRequest

-- True if the bytes begin with an invalid request head, and `reply` is the response to that head.
pub record RepliesToBadHead (bytes reply : List ℕ) : Type 0 where
  pub bad : IsBadHead bytes
  pub is : reply ≡ reply_bytes (fault (bad_head_status bytes))

-- The response to a command's request whose body parses to `given`, a command or a fault.
abbrev pub reply_to_command : Office → Table → (bytes : List ℕ) → Head
    → Result Command CommandFault → List ℕ
reply_to_command office table bytes at given =
    reply_bytes
    (command_reply (ask office (start_at bytes at) (body_of table bytes at)) given)

-- True if `reply` is the response to the received bytes, which have an invalid head or a complete
-- request.
abbrev pub IsReply : Office → Table → (bytes reply : List ℕ) → Type 0
IsReply office table bytes reply =
    RepliesToBadHead bytes reply ⊎ RepliesToRequest office table bytes reply
