-- The routes of `sunreg run`, and the responses that need no data of the store: the status, the web
-- page and errors.
use Rattle.std.specs.Prelude.{◌≡◌, ℕ, Bool, true, false, not, ◌&&◌, if◌then◌else◌, Option, Some, None, List, [], ◌++◌, length, codes, decimal}
use Rattle.std.specs.Option.{option_map}
use Rattle.std.specs.Str.{bytes_eq}
use Rattle.httparse.specs.Spans.{span_bytes}
use Rattle.office_http.specs.Messages.Head.Heads.{Looks}
use Rattle.office_http.specs.Messages.Hosts.{may_ask_in}
use Rattle.office_http.specs.Messages.Routing.Targets.{has_query}
use Rattle.office_http.specs.Messages.Sites.{is_cross_site_in}
use Rattle.office_http.specs.Messages.Status.Statuses.{number_of_status, reason_of_status}
use Rattle.office_http.specs.declared.messages.head.head.HeadState.{HeadState}
use Rattle.office_http.specs.declared.messages.head.head.HeadState.TheVariants.{Open, TooLarge, NoHead, Whole}
use Rattle.office_http.specs.declared.messages.status.Status.{Status as HttpStatus}
use Rattle.office_http.specs.declared.messages.status.Status.TheVariants.{Fine, Forbidden, MethodNotAllowed, Misdirected}
use Rattle.office_http.specs.Messages.Sending.Bodies.{fault_text}
use Rattle.run_http.specs.MeterTargets.{meter_target}
use Rattle.run_http.specs.RegisterTargets.{IsRegisterTarget}
use Rattle.run_http.specs.Status.Status.StatusText.{with_status}
use Rattle.run_http.specs.declared.status.advice.lacks.DeviceLack.{DeviceLack}
use Rattle.run_http.specs.declared.status.status.counts.Counts.{Counts}
use Rattle.run_http.specs.declared.status.status.status.DeviceState.{DeviceState}
use Rattle.run_http.specs.declared.route.RunRoute.{RunRoute}
use Rattle.run_http.specs.declared.route.RunRoute.TheVariants.{Own, Metrics, Site, Intervals, Entries, Voids, Energy, Meters}
use Rattle.run_http.specs.declared.route.StatusRoute.{StatusRoute}
use Rattle.run_http.specs.declared.route.StatusRoute.TheVariants.{Status, Page, Rejected}
use Rattle.web_page.specs.Parts.{body_of, content_type_of, part_of}
use Rattle.web_page.specs.declared.parts.PagePart.{PagePart}

-- The route of a target with a fixed path: `/status`, `/metrics`, `/site`, or a part of the web
-- page.
abbrev pub path_named : (target : List ℕ) → Option RunRoute
path_named target =
    if bytes_eq target (codes "/status") then Some (Own Status)
    else if bytes_eq target (codes "/metrics") then Some Metrics
    else if bytes_eq target (codes "/site") then Some Site
    else option_map (λ part. Own (Page part)) (part_of target)

-- The route of a request target. A target other than a fixed path such as `/status` can still
-- request quarter hours or entries of a meter.
abbrev pub or_meter : (target : List ℕ) → Option RunRoute → Option RunRoute
or_meter target None = meter_target target
or_meter target (Some route) = Some route

-- The route of a target that is a fixed path such as `/status`, or requests quarter hours or
-- entries of a meter.
abbrev pub plain_target : (target : List ℕ) → Option RunRoute
plain_target target = or_meter target (path_named target)

-- The route of a request target. A target that is no fixed path and requests no rows of a meter can
-- still request the energy or the meters of an accounting register (a named energy counter).
abbrev pub IsElse : (target : List ℕ) → Option RunRoute → Option RunRoute → Type 0
IsElse target None route = IsRegisterTarget target route
IsElse target (Some plain) route = route ≡ Some plain

-- The route of a request target without a question mark, if it is one of the routes of `sunreg
-- run`.
abbrev pub IsWholeTarget : (target : List ℕ) → Option RunRoute → Type 0
IsWholeTarget target route = IsElse target (plain_target target) route

-- The route of a request target. A target with a question mark has no route.
abbrev pub IsTargetUnless : (has_query : Bool) → (target : List ℕ) → Option RunRoute → Type 0
IsTargetUnless true target route = route ≡ None
IsTargetUnless false target route = IsWholeTarget target route

-- The route of a request target, if it is one of the routes of `sunreg run`.
abbrev pub IsTarget : (target : List ℕ) → Option RunRoute → Type 0
IsTarget target route = IsTargetUnless (has_query target) target route

-- The route of a request with this method. A request with a method other than GET gets status 405.
abbrev pub route_by : (method : List ℕ) → Option RunRoute → Option RunRoute
route_by method None = None
route_by method (Some route) =
    if bytes_eq method (codes "GET") then Some route else Some (Own (Rejected MethodNotAllowed))

-- The route of a request with this method and target, if it is one of the routes of `sunreg run`.
abbrev pub IsRouteNamed : (method target : List ℕ) → Option RunRoute → Type 0
IsRouteNamed method target route =
    (asked : Option RunRoute) × IsTarget target asked × (route ≡ route_by method asked)

-- The route of a request by its head. An incomplete or invalid head has no route.
abbrev pub IsRouteIn : List ℕ → HeadState → Option RunRoute → Type 0
IsRouteIn bytes Open route = route ≡ None
IsRouteIn bytes TooLarge route = route ≡ None
IsRouteIn bytes NoHead route = route ≡ None
IsRouteIn bytes (Whole at) route =
    IsRouteNamed (span_bytes bytes at.method) (span_bytes bytes at.target) route

-- True if the request is a GET for the path `/` of the web page. Pages of other sites may link to
-- this path, and may request nothing else.
abbrev pub is_link_to_page : (method target : List ℕ) → Bool
is_link_to_page method target = bytes_eq method (codes "GET") && bytes_eq target (codes "/")

-- True if the bytes hold a complete head that requests the web page itself.
abbrev pub asks_for_page : List ℕ → HeadState → Bool
asks_for_page bytes Open = false
asks_for_page bytes TooLarge = false
asks_for_page bytes NoHead = false
asks_for_page bytes (Whole at) =
    is_link_to_page (span_bytes bytes at.method) (span_bytes bytes at.target)

-- True if a page of another site sent the request, and the request is not for the web page itself.
abbrev pub is_forbidden : List ℕ → HeadState → Bool
is_forbidden bytes head_state =
    is_cross_site_in bytes head_state && not (asks_for_page bytes head_state)

-- The route of the request, or status 403 if `forbidden` is true.
abbrev pub IsPermittedUnless : (forbidden : Bool) → List ℕ → HeadState → Option RunRoute → Type 0
IsPermittedUnless true bytes head_state route = route ≡ Some (Own (Rejected Forbidden))
IsPermittedUnless false bytes head_state route = IsRouteIn bytes head_state route

-- The route of the request, or 403 if a page of another site sent it. Requests for the web page
-- itself are exempt from the 403.
abbrev pub IsPermitted : List ℕ → HeadState → Option RunRoute → Type 0
IsPermitted bytes head_state route =
    IsPermittedUnless (is_forbidden bytes head_state) bytes head_state route

-- The route of the request, or status 421 if the request's host name was rejected. `may` says
-- whether the host name was accepted.
abbrev pub IsRunRoute : (may : Bool) → List ℕ → HeadState → Option RunRoute → Type 0
IsRunRoute true bytes head_state route = IsPermitted bytes head_state route
IsRunRoute false bytes head_state route = route ≡ Some (Own (Rejected Misdirected))

-- The route of the request in the bytes. `names` are the accepted host names.
pub record IsFor (names : List (List ℕ)) (bytes : List ℕ) (route : Option RunRoute) : Type 0 where
  pub head_state : HeadState
  pub looks : Looks bytes head_state
  pub asks : IsRunRoute (may_ask_in names bytes head_state) bytes head_state route

-- True if the route returns the energy of an accounting register (a named energy counter).
abbrev pub is_energy : Option RunRoute → Bool
is_energy None = false
is_energy (Some (Own own)) = false
is_energy (Some Metrics) = false
is_energy (Some Site) = false
is_energy (Some (Intervals meter span)) = false
is_energy (Some (Entries meter from)) = false
is_energy (Some (Voids meter)) = false
is_energy (Some (Energy register form)) = true
is_energy (Some (Meters register)) = false

-- States that `result` is true exactly if the bytes request the energy of an accounting register (a
-- named energy counter).
pub record AsksEnergy (names : List (List ℕ)) (bytes : List ℕ) (result : Bool) : Type 0 where
  pub route : Option RunRoute
  pub for : IsFor names bytes route
  pub is : result ≡ is_energy route

-- The status line and the headers of a response, for a body with this type and size.
abbrev pub with_start_of : HttpStatus → (kind : List ℕ) → (size : ℕ) → List ℕ → List ℕ
with_start_of status kind size text =
    text ++ codes "HTTP/1.1 " ++ decimal (number_of_status status) ++ codes " "
    ++ reason_of_status status
    ++ codes "\r\nContent-Type: " ++ kind ++ codes "\r\nContent-Length: " ++ decimal size
    ++ codes "\r\nConnection: close"

-- The status line and the headers of a response, given the body and its content type.
abbrev pub with_start : HttpStatus → (kind body : List ℕ) → List ℕ → List ℕ
with_start status kind body text = with_start_of status kind (length body) text

-- A complete response: its status line, its headers and its body.
abbrev pub with_reply : HttpStatus → (kind body : List ℕ) → List ℕ → List ℕ
with_reply status kind body text =
    with_start status kind body text ++ codes "\r\n\r\n" ++ body

-- The response headers for a part of the web page. A browser then loads nothing from other sites
-- for the page, shows it in no frame, and revalidates a cached copy before use.
abbrev pub with_page_headers : List ℕ → List ℕ
with_page_headers text =
    text ++ codes "\r\nContent-Security-Policy: default-src 'self'; frame-ancestors 'none'"
    ++ codes "\r\nCache-Control: no-cache"

-- The HTTP response that delivers one part of the web page (`PagePart`), appended to `text`.
abbrev pub with_page_reply : PagePart → List ℕ → List ℕ
with_page_reply part text =
    with_page_headers (with_start Fine (content_type_of part) (body_of part) text)
    ++ codes "\r\n\r\n" ++ body_of part

-- The response of a route that needs no data of the store.
abbrev pub with_route_reply : StatusRoute → Counts → List DeviceState → List DeviceLack
    → List ℕ → List ℕ
with_route_reply Status counts devices lacks text =
    with_reply Fine (codes "application/json") (with_status [] counts devices lacks) text
with_route_reply (Page part) counts devices lacks text = with_page_reply part text
with_route_reply (Rejected status) counts devices lacks text =
    with_reply status (codes "application/json") (fault_text status) text
