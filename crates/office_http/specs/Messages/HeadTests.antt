-- The tests of a request's head, in the order in which the program makes them.
use Rattle.std.specs.Prelude.{ℕ, Bool, false, not, if◌then◌else◌, List, [], ◌∷◌, map, take, is_none, Option, Some, None}
use Rattle.std.specs.Str.{bytes_eq}
use Rattle.httparse.specs.Grammar.{RequestHead}
use Rattle.httparse.specs.Spans.{header_bytes, name_and_value, span_bytes}
use Rattle.office_http.specs.declared.messages.head.head.Head.{Head}
use Rattle.office_http.specs.Messages.Routing.Routes.{Table}
use Rattle.office_http.specs.Messages.Routing.Targets.{is_question, method_of, route_in}
use Rattle.office_http.specs.declared.messages.routing.routes.Route.{Route}
use Rattle.office_http.specs.Messages.Tests.{first_failed, post_headers_of, post_tests}
use Rattle.office_http.specs.declared.messages.status.Status.{Status}
use Rattle.office_http.specs.declared.messages.status.Status.TheVariants.{NotFound, MethodNotAllowed}

-- The parts of a request's head by which the server accepts or rejects the request: its method, its
-- target, and the name and value of each header.
pub record Start : Type 0 where
  pub method : List ℕ
  pub target : List ℕ
  pub headers : List (List ℕ × List ℕ)

-- The method, target and headers of a parsed request head.
abbrev pub start_of : RequestHead → Start
start_of h = record { method = h.method; target = h.target; headers = map name_and_value h.fields }

-- The method, target and headers of a request head, read from its spans in the bytes.
abbrev pub start_at : List ℕ → Head → Start
start_at bytes at = record {
  method = span_bytes bytes at.method;
  target = span_bytes bytes at.target;
  headers = map (header_bytes bytes) (take at.count at.headers);
}

-- True if the request's method is that of the route. The comparison distinguishes upper and lower
-- case.
abbrev pub has_method : Route → List ℕ → Bool
has_method route method = bytes_eq method (method_of route)

-- True if the request target has a route, but the request's method is not that of the route.
abbrev pub has_other_method : Option Route → List ℕ → Bool
has_other_method None method = false
has_other_method (Some route) method = not (has_method route method)

-- True if the route of the request target is a query. False for a command and for a target without
-- a route.
abbrev pub asks : Option Route → Bool
asks None = false
asks (Some route) = is_question route

-- The tests of a request's head in order: the route, the method, and for a command the headers of a
-- POST. Each pair is a flag that the test failed, and the status for that failure.
abbrev pub head_tests : Table → Start → List (Bool × Status)
head_tests table start =
    (is_none (route_in table start.target), NotFound)
    ∷ (has_other_method (route_in table start.target) start.method, MethodNotAllowed)
    ∷ (if asks (route_in table start.target) then []
    else post_tests (post_headers_of start.headers))

-- The status of the first failed test of a request's head.
abbrev pub head_fault : Table → Start → Option Status
head_fault table start = first_failed (head_tests table start)
