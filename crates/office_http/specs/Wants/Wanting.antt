-- The query or command of a request, or the reason why the request has neither.
use Rattle.std.specs.Prelude.{◌≡◌, ◌⊎◌, ℕ, true, List, Ok, Err}
use Rattle.office_http.specs.Messages.Commands.Given.{Gives}
use Rattle.office_http.specs.Messages.Commands.Few.{HasFewRows}
use Rattle.office_http.specs.declared.messages.commands.fault.CommandFault.{CommandFault}
use Rattle.office_http.specs.declared.messages.commands.fault.CommandFault.TheVariants.{Memory}
use Rattle.office_http.specs.Messages.HeadTests.{Start}
use Rattle.office_http.specs.Messages.Routing.Routes.{Table}
use Rattle.office_http.specs.Messages.Routing.Targets.{is_question, name_in, name_of}
use Rattle.office_http.specs.declared.messages.routing.routes.Route.{Route}
use Rattle.office_http.specs.declared.messages.routing.targets.Found.{Found}
use Rattle.office_http.specs.declared.messages.status.Status.{Status}
use Rattle.office_http.specs.Messages.Whole.Whole.{HoldsRequest}
use Rattle.office_events.specs.declared.commands.Command.{Command}
use Rattle.office_events.specs.declared.events.Asked.{Asked}
use Rattle.office_http.specs.Messages.Kinds.{done_text}
use Rattle.office_http.specs.Messages.Offices.{Office}
use Rattle.office_http.specs.Messages.Replies.{asked_of, fault, fault_said, question_reply, reply_bytes, row_reply}
use Rattle.office_http.specs.Messages.Requests.{name_asked}
use Rattle.office_http.specs.Messages.WholeResponses.{IsCommand, IsReply}
use Rattle.office_http.specs.declared.wants.kinds.Want.{Want}
use Rattle.office_http.specs.declared.wants.kinds.Want.TheVariants as want

-- True if the received bytes have a request for the given command: its head passes all tests, and
-- its body contains the command.
pub record AsksOffice (table : Table) (bytes : List ℕ) (asked : Asked) : Type 0 where
  pub start : Start
  pub body : List ℕ
  pub holds : HoldsRequest table bytes start body
  pub route : Route
  pub leads : IsCommand table start route
  pub command : Command
  pub gives : Gives route (name_asked (name_in table start.target)) body (Ok command)
  pub is : asked ≡ asked_of start body command

-- True if the received bytes have no request for any command.
abbrev pub AsksNothing : Table → (bytes : List ℕ) → Type 0
AsksNothing table bytes = (asked : Asked) → AsksOffice table bytes asked → ⊥

-- True if the received bytes have no request for a command, and `text` is the response to them,
-- whatever the program answers to queries and commands.
pub record IsReportedOff (table : Table) (bytes text : List ℕ) : Type 0 where
  pub nothing : AsksNothing table bytes
  pub reply : (office : Office) → IsReply office table bytes text

-- True if the received bytes have a request with the given query, and the response is the program's
-- answer to the query.
pub record IsQuestion (table : Table) (bytes : List ℕ) (found : Found) : Type 0 where
  pub asks : is_question found.route ≡ true
  pub nothing : AsksNothing table bytes
  pub reply : (office : Office)
      → IsReply office table bytes (reply_bytes (question_reply office found.route (name_of found)))

-- True if the received bytes have a request for the given command, and the response is the
-- program's answer to the command.
pub record IsAskedFor (table : Table) (bytes : List ℕ) (asked : Asked) : Type 0 where
  pub asks : AsksOffice table bytes asked
  pub reply : (office : Office)
      → IsReply office table bytes (reply_bytes (row_reply done_text (office.asked asked)))

-- True if the body of the request contains no valid command, for the reason `why`. Always true if
-- the reason is `Memory` (out of memory), which says nothing about the request.
abbrev pub IsNoCommand : Table → (bytes : List ℕ) → CommandFault → Type 0
IsNoCommand table bytes why = (why ≡ Memory) ⊎ IsReportedOff table bytes (reply_bytes (fault_said why))

-- True if the parsed result is that of the HTTP request in the received bytes: a query, a command,
-- or a rejection. The request is rejected if a check of its head fails or its body is faulty.
abbrev pub Wants : Table → (bytes : List ℕ) → Want → Type 0
Wants table bytes (want.Rejected status) = IsReportedOff table bytes (reply_bytes (fault status))
Wants table bytes (want.Answer found) = IsQuestion table bytes found
Wants table bytes (want.Refused why) = IsNoCommand table bytes why
Wants table bytes (want.Command asked) = IsAskedFor table bytes asked

-- States that if the result reports faulty rows of a point list (CSV), there are at most 513, with
-- row numbers of at most 514. States nothing for other results.
abbrev pub HasFewFaults : Want → Type 0
HasFewFaults (want.Rejected status) = Unit {0}
HasFewFaults (want.Answer found) = Unit {0}
HasFewFaults (want.Refused why) = HasFewRows (Err why)
HasFewFaults (want.Command asked) = Unit {0}
