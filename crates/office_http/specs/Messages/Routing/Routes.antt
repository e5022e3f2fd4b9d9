-- The table of the routes that the HTTP server has.
use Rattle.std.specs.Prelude.{◌≡◌, ℕ, List, [], ◌∷◌, Option, Some, None, Result, Ok, Err, codes}
use Rattle.matchit.specs.Params.{walk}
use Rattle.matchit.specs.Order.{placed}
use Rattle.matchit.specs.Route.{Scan, parse_route}
use Rattle.matchit.specs.Router.{RouteOf, nearest, route_from}
use Rattle.matchit.specs.Rows.{RowsOf}
use Rattle.matchit.specs.declared.error.InsertError.{InsertError}
use Rattle.office_http.specs.declared.messages.routing.routes.Route.{Route}
use Rattle.office_http.specs.declared.messages.routing.routes.Route.TheVariants.{Devices, List as ListRoute, Registers, Install, Exchange, Reset, Rescale, Manual, Close, Void, Days, Meter, Intervals, Poll}

-- The type of an HTTP router's table of routes.
abbrev pub Table : Type 0
Table = RowsOf (RouteOf Route)

-- The table of routes with one more route, from the parsed text of its pattern. A malformed text
-- adds no route.
abbrev pub with_route : Result Scan InsertError → Route → Table → Table
with_route (Ok s) value rows = placed (s.pattern, route_from s value) rows
with_route (Err e) value rows = rows

-- The table of routes with one more route, from the text of its pattern, such as `/polls/{number}`.
abbrev pub add : List ℕ → Route → Table → Table
add text value rows = with_route (parse_route text) value rows

-- True if the parsed pattern of a route is well formed, and conflicts with no route of the table.
abbrev pub FitsRead : Result Scan InsertError → Table → Type 0
FitsRead (Ok s) rows = nearest s.pattern rows ≡ None
FitsRead (Err e) rows = ⊥

-- True if the pattern of a route is well formed, and conflicts with no route of the table.
abbrev pub Fits : List ℕ → Table → Type 0
Fits text rows = FitsRead (parse_route text) rows

-- The table of all routes that the HTTP server has.
abbrev pub routes : Table
routes =
    add (codes "/polls/{number}") Poll (
    add (codes "/meters/{name}/void") Void (
    add (codes "/meters/{name}/intervals") Intervals (
    add (codes "/meters/{name}") Meter (
    add (codes "/registers/{name}/days") Days (
    add (codes "/registers/{name}/close") Close (
    add (codes "/registers/{name}/manual") Manual (
    add (codes "/registers/{name}/rescale") Rescale (
    add (codes "/registers/{name}/reset") Reset (
    add (codes "/registers/{name}/exchange") Exchange (
    add (codes "/registers/{name}/install") Install (
    add (codes "/registers") Registers (
    add (codes "/devices/{name}/list") ListRoute (
    add (codes "/devices") Devices [])))))))))))))

-- The value of the first parameter in a list of route parameters with their values, or None if the
-- list is empty.
abbrev pub head_value : List (List ℕ × List ℕ) → Option (List ℕ)
head_value [] = None
head_value (p ∷ rest) = Some p.1

-- The value of the first parameter of the route `r` in the path of a request.
abbrev pub param_of : RouteOf Route → List ℕ → Option (List ℕ)
param_of r path = head_value (walk r.pattern r.text path r.names 0 0)
