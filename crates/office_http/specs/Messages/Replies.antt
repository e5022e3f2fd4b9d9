-- The response to a request. The first failed test of the request's head decides the response, then
-- a fault of the body, and otherwise the program's answer.
use Rattle.std.specs.Prelude.{ℕ, List, ◌++◌, if◌then◌else◌, Option, Some, None, Result, Ok, Err}
use Rattle.office_http.specs.declared.messages.commands.fault.CommandFault.{CommandFault}
use Rattle.office_http.specs.declared.messages.commands.fault.CommandFault.TheVariants.{Malformed, Negative, Faulty, Memory}
use Rattle.office_http.specs.Messages.Sending.Bodies.{fault_text, refused_text}
use Rattle.office_http.specs.Messages.Sending.Replies.{json_reply, text_head}
use Rattle.office_http.specs.Messages.HeadTests.{Start, head_fault}
use Rattle.office_http.specs.Messages.Tests.{PostHeaders, caller_in, post_headers_of, request_in}
use Rattle.office_http.specs.Messages.Routing.Routes.{Table}
use Rattle.office_http.specs.Messages.Routing.Targets.{name_in, route_in}
use Rattle.office_http.specs.declared.messages.routing.routes.Route.{Route}
use Rattle.office_http.specs.declared.messages.routing.routes.Route.TheVariants as route
use Rattle.office_http.specs.declared.messages.status.Status.{Status}
use Rattle.office_http.specs.declared.messages.status.Status.TheVariants.{Fine, BadRequest, NotFound as NotThere, Unprocessable}
use Rattle.office_events.specs.Numbers.{refusal_number}
use Rattle.office_events.specs.declared.answers.CommandKind.{CommandKind}
use Rattle.office_events.specs.declared.commands.Command.{Command}
use Rattle.office_events.specs.declared.events.Asked.{Asked}
use Rattle.office_events.specs.declared.refusals.Refusal.{Refusal}
use Rattle.office_events.specs.declared.refusals.Refusal.TheVariants as refusal
use Rattle.interval_core.specs.Lines.{days_text, intervals_text}
use Rattle.office_http.specs.Messages.Faults.{faults_text}
use Rattle.office_http.specs.Messages.Kinds.{done_text}
use Rattle.office_http.specs.Messages.Offices.{Office}
use Rattle.office_http.specs.Messages.Requests.{kept_request, name_asked, number_asked}
use Rattle.office_http.specs.Messages.Rows.{meter_text, poll_text}
use Rattle.office_http.specs.Messages.Statuses.{status_of}

-- An HTTP response: a status with a JSON body, or lines of plain text.
pub data Reply : Type 0 where
  Json : Status → List ℕ → Reply
  Lines : List ℕ → Reply

-- The bytes of an HTTP response.
abbrev pub reply_bytes : Reply → List ℕ
reply_bytes (Json status body) = json_reply status body
reply_bytes (Lines lines) = text_head ++ lines

-- The JSON response with the given status, for a request that fails a test before it is executed.
abbrev pub fault : Status → Reply
fault status = Json status (fault_text status)

-- The JSON response that reports the numeric code of the reason why the program refused the
-- request.
abbrev pub refused : Refusal → Reply
refused why = Json (status_of why) (refused_text (refusal_number why))

-- The response to a query for one object, such as a meter or a poll: the object as JSON, or an
-- error response if the program refused the query.
abbrev pub row_reply : {X : Type 0} → (X → List ℕ) → Result X Refusal → Reply
row_reply text (Ok row) = Json Fine (text row)
row_reply text (Err why) = refused why

-- The response to a query for many rows: the rows as lines of text, or an error response if the
-- program refused the query.
abbrev pub lines_reply : {X : Type 0} → (X → List ℕ) → Result X Refusal → Reply
lines_reply text (Ok rows) = Lines (text rows)
lines_reply text (Err why) = refused why

-- The response to a query for the poll with the given number. Without a valid number, the response
-- is "not found".
abbrev pub poll_reply : Office → Option ℕ → Reply
poll_reply office None = refused refusal.NotFound
poll_reply office (Some number) = row_reply poll_text (office.poll number)

-- The response to a query, by its route and the route's parameter. A route that is no query gets
-- 404.
abbrev pub question_reply : Office → Route → Option (List ℕ) → Reply
question_reply office route.Meter taken = row_reply meter_text (office.meter (name_asked taken))
question_reply office route.Poll taken = poll_reply office (number_asked taken)
question_reply office route.Intervals taken =
    lines_reply intervals_text (office.intervals (name_asked taken))
question_reply office route.Days taken = lines_reply days_text (office.days (name_asked taken))
question_reply office _ taken = fault NotThere

-- The response to a request whose body contains no valid command. Nothing is executed.
abbrev pub fault_said : CommandFault → Reply
fault_said Malformed = fault BadRequest
fault_said Negative = refused refusal.Limit
fault_said (Faulty rows) = Json Unprocessable (faults_text rows)
fault_said Memory = refused refusal.Memory

-- The response to a command: the program's answer if the body contains a valid command, otherwise
-- the fault of the body.
abbrev pub command_reply : (Command → Result CommandKind Refusal) → Result Command CommandFault
    → Reply
command_reply ask (Ok command) = row_reply done_text (ask command)
command_reply ask (Err why) = fault_said why

-- The request number in the headers, or 0 if the headers have no valid number.
abbrev pub number_or_zero : Option ℕ → ℕ
number_or_zero None = 0
number_or_zero (Some number) = number

-- A command with its idempotency key, and the bytes that the store records of its request.
abbrev pub asked_with : PostHeaders → (request : List ℕ) → Command → Asked
asked_with headers request command = record {
  caller = caller_in headers;
  number = number_or_zero (request_in headers);
  request = request;
  command = command;
}

-- A command with the idempotency key in its headers, and the bytes that the store records of its
-- request.
abbrev pub asked_of : Start → (body : List ℕ) → Command → Asked
asked_of start body command =
    asked_with (post_headers_of start.headers) (kept_request start.method start.target body) command

-- The program's answer to the command in a request.
abbrev pub ask : Office → Start → (body : List ℕ) → Command → Result CommandKind Refusal
ask office start body command = office.asked (asked_of start body command)

-- The response to a request with the given route whose head passes all tests.
abbrev pub route_reply : Office → Start → (body : List ℕ) → Result Command CommandFault → Route
    → Option (List ℕ) → Reply
route_reply office start body given route.Meter taken = question_reply office route.Meter taken
route_reply office start body given route.Poll taken = question_reply office route.Poll taken
route_reply office start body given route.Intervals taken =
    question_reply office route.Intervals taken
route_reply office start body given route.Days taken = question_reply office route.Days taken
route_reply office start body given _ taken = command_reply (ask office start body) given

-- The response to a request with the given route. For a request without a route, the response is
-- 404.
abbrev pub found_reply : Office → Start → (body : List ℕ) → Result Command CommandFault
    → Option Route → Option (List ℕ) → Reply
found_reply office start body given None taken = fault NotThere
found_reply office start body given (Some route) taken =
    route_reply office start body given route taken

-- The error response with the status of the first failed test of a request, or `reply` if no test
-- failed.
abbrev pub unless_failed : Option Status → Reply → Reply
unless_failed None reply = reply
unless_failed (Some status) reply = fault status

-- The response to a request with a given head and body. `given` is the command in the body, or the
-- fault of the body.
abbrev pub reply_of : Office → Table → Start → (body : List ℕ) → Result Command CommandFault → Reply
reply_of office table start body given =
    unless_failed (head_fault table start)
    (found_reply office start body given (route_in table start.target) (name_in table start.target))
