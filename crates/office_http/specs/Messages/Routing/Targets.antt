-- The route of a request target, and the value of the route's parameter.
use Rattle.std.specs.Prelude.{ℕ, ◌==◌, Bool, true, false, if◌then◌else◌, List, Option, None, option_map, option_and_then, codes}
use Rattle.std.specs.List.{list_any, list_all}
use Rattle.std.specs.Char.{is_ascii}
use Rattle.matchit.specs.Seek.{first}
use Rattle.office_http.specs.Messages.Routing.Routes.{Table, param_of}
use Rattle.office_http.specs.declared.messages.routing.routes.Route.{Route}
use Rattle.office_http.specs.declared.messages.routing.targets.Found.{Found}
use Rattle.office_http.specs.declared.messages.routing.routes.Route.TheVariants.{Devices, List as ListRoute, Registers, Install, Exchange, Reset, Rescale, Manual, Close, Void, Days, Meter, Intervals, Poll}

-- True if the request target contains a question mark.
abbrev pub has_query : List ℕ → Bool
has_query target = list_any (λ byte. byte == 63) target

-- The route in the table that matches a request target, or None if no route matches.
abbrev pub first_route : Table → List ℕ → Option Route
first_route table target = option_map (λ r. r.value) (first table target)

-- The value of the route's parameter in a request target, if the target has a route with a
-- parameter.
abbrev pub first_name : Table → List ℕ → Option (List ℕ)
first_name table target = option_and_then (λ r. param_of r target) (first table target)

-- The route of a request target. A target with a question mark has no route.
abbrev pub route_in : Table → List ℕ → Option Route
route_in table target = if has_query target then None else first_route table target

-- The value of the route's parameter in a request target. None for a target with a byte outside
-- ASCII.
abbrev pub name_in : Table → List ℕ → Option (List ℕ)
name_in table target = if list_all is_ascii target then first_name table target else None

-- The bytes of the route parameter's value, if the route has a parameter.
abbrev pub name_of : Found → Option (List ℕ)
name_of found = option_map (λ s. s.now) found.name

-- True if the route is a query (GET). All other routes are commands (POST).
abbrev pub is_question : Route → Bool
is_question Devices = false
is_question ListRoute = false
is_question Registers = false
is_question Install = false
is_question Exchange = false
is_question Reset = false
is_question Rescale = false
is_question Manual = false
is_question Close = false
is_question Void = false
is_question Days = true
is_question Meter = true
is_question Intervals = true
is_question Poll = true

-- The HTTP method of a route: GET for a query, POST for a command.
abbrev pub method_of : Route → List ℕ
method_of route = if is_question route then codes "GET" else codes "POST"
