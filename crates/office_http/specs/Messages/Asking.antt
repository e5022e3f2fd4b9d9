-- The parsed request of an HTTP head: a query (GET) or a command (POST).
use Rattle.std.specs.Prelude.{◌≡◌, true, false, Some, None, Result, Ok, Err}
use Rattle.office_http.specs.Messages.Routing.Routes.{Table}
use Rattle.office_http.specs.Messages.Routing.Targets.{is_question, name_in, name_of, route_in}
use Rattle.office_http.specs.declared.messages.routing.targets.Found.{Found}
use Rattle.office_http.specs.Messages.HeadTests.{Start, head_fault}
use Rattle.office_http.specs.Messages.Tests.{PostHeaders, caller_in, post_fault, post_headers_of, request_in, size_in}
use Rattle.office_http.specs.declared.messages.ask.Ask.{Ask}
use Rattle.office_http.specs.declared.messages.ask.Ask.TheVariants.{Question, Command}
use Rattle.office_http.specs.declared.messages.post.Posted.{Posted}
use Rattle.office_http.specs.declared.messages.status.Status.{Status}

-- True if the request target has the given route and the given value of the route's parameter.
pub record LeadsTo (table : Table) (start : Start) (found : Found) : Type 0 where
  pub route : route_in table start.target ≡ Some found.route
  pub name : name_of found ≡ name_in table start.target

-- True if the headers of a POST parse to the given body size, client name and request number.
pub record Says (headers : PostHeaders) (posted : Posted) : Type 0 where
  pub size : size_in headers ≡ Some posted.size
  pub caller : caller_in headers ≡ Some posted.caller
  pub number : request_in headers ≡ Some posted.number

-- True if the result is that of testing a POST's headers: the parsed headers if all tests pass, or
-- the status of the first failed test.
abbrev pub TestsPost : PostHeaders → Result Posted Status → Type 0
TestsPost headers (Ok posted) = (post_fault headers ≡ None) × Says headers posted
TestsPost headers (Err status) = post_fault headers ≡ Some status

-- True if the route and the headers of the request head are those of the given query or command.
abbrev pub AsksFor : Table → Start → Ask → Type 0
AsksFor table start (Question found) = LeadsTo table start found × (is_question found.route ≡ true)
AsksFor table start (Command found posted) =
    LeadsTo table start found × (is_question found.route ≡ false)
    × Says (post_headers_of start.headers) posted

-- True if the result is that of testing a request's head: the query or command if all tests pass,
-- or the status of the first failed test.
abbrev pub TestsHead : Table → Start → Result Ask Status → Type 0
TestsHead table start (Ok ask) = (head_fault table start ≡ None) × AsksFor table start ask
TestsHead table start (Err status) = head_fault table start ≡ Some status
