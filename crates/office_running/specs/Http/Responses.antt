-- Defines the response of each route of `sunreg run`, and the response to a request.
use Rattle.std.specs.Prelude.{◌≡◌, ◌⊎◌, ℕ, true, false, Bool, List, [], Option, Some, None, Result, Ok, Err, OnOk, codes}
use Rattle.std.specs.List.{find}
use Rattle.std.specs.Option.{option_and_then}
use Rattle.std.specs.declared.alloc.AllocError.{AllocError}
use Rattle.std.specs.declared.alloc.Global.{Global}
use Rattle.std.specs.declared.vec.Vec.{Vec}
use Rattle.carried_books.specs.declared.joining.earlier.EarlierRegister.{EarlierRegister}
use Rattle.energy_report.specs.declared.form.ReportForm.{ReportForm}
use Rattle.office_http.specs.Messages.Sending.Bodies.{fault_text}
use Rattle.office_http.specs.Messages.Hosts.{texts}
use Rattle.office_http.specs.Messages.Routing.Routes.{Table}
use Rattle.office_http.specs.declared.messages.status.Status.TheVariants.{Unavailable}
use Rattle.interval_core.specs.Lines.{intervals_text}
use Rattle.interval_core.specs.declared.shares.Share.{Share}
use Rattle.interval_core.specs.declared.zone.Zone.{Zone}
use Rattle.office_books.specs.Ledgers.{Ledger}
use Rattle.office_books.specs.declared.spans.Span.TheVariants.{Between}
use Rattle.office_core.specs.Asking.{OnlyAsks, ReportsRow}
use Rattle.office_core.specs.Parts.{entries_within, intervals_within, meters_named}
use Rattle.office_core.specs.declared.office.Office.{Office}
use Rattle.office_events.specs.declared.questions.Installation.{Installation}
use Rattle.office_events.specs.declared.refusals.Refusal.{Refusal}
use Rattle.office_http.specs.Serving.{Lasts}
use Rattle.office_books.specs.Facts.{is_named}
use Rattle.office_books.specs.Meters.{meter_of}
use Rattle.run_http.specs.Answer.{Asks}
use Rattle.office_running.specs.Http.Clients.{OnlyQueries}
use Rattle.office_running.specs.Http.EnergyOver.{RepliesEnergyOver}
use Rattle.office_running.specs.Http.KeptRoom.{Rejects}
use Rattle.run_http.specs.MeterReplies.{RepliesRows}
use Rattle.run_http.specs.MetricsReply.{with_metrics_reply}
use Rattle.run_http.specs.OfficeRequests.{AsksAllRows}
use Rattle.run_http.specs.Pieces.{BeginsReply, with_all_rows, with_rows}
use Rattle.run_http.specs.RegisterReplies.{RepliesEnergy}
use Rattle.office_running.specs.Http.SiteOver.{with_site_over}
use Rattle.run_http.specs.SiteReply.{RepliesSite}
use Rattle.run_http.specs.StatusRoute.{AsksEnergy, IsFor, with_reply, with_route_reply}
use Rattle.run_http.specs.Texts.MeterLines.{entries_text, voids_text}
use Rattle.run_http.specs.Texts.RegisterLines.{meters_text}
use Rattle.run_http.specs.Voids.{voids_of}
use Rattle.run_http.specs.declared.answer.ClientResponse.{ClientResponse}
use Rattle.run_http.specs.declared.answer.ClientResponse.TheVariants.{Open, Replied, Failed}
use Rattle.run_http.specs.declared.meter_replies.TheConstants.{MOST_ENTRIES}
use Rattle.run_http.specs.declared.pieces.RemainingRows.{RemainingRows}
use Rattle.run_http.specs.declared.route.RunRoute.{RunRoute}
use Rattle.run_http.specs.declared.route.RunRoute.TheVariants.{Own, Metrics, Site, Intervals, Entries, Voids, Energy, Meters}
use Rattle.office_running.specs.Http.Repeats.{WasReplied}
use Rattle.office_running.specs.declared.http.http_port.HttpPort.{HttpPort}
use Rattle.office_running.specs.declared.http.repeats.Replied as stored
use Rattle.office_running.specs.declared.http.run_context.RunContext.{RunContext}

-- The contract of a function that appends the response with the energy of an accounting register (a
-- named energy counter). If earlier database files have the register (`earlier`), the response has
-- the energy in these files and in the current file. If not, it has only the energy in the current
-- file.
abbrev pub RepliesDays : {B : Type 0} → (B → Ledger) → (old new : Office B) → Zone
    → (earlier : Option EarlierRegister) → (register : Option (List ℕ)) → ReportForm
    → (from to : List ℕ) → {E : Type 0} → Result (Unit {0}) E → Type 0
RepliesDays ledger old new zone None register form from to result =
    RepliesEnergy ledger old new register form from to result
RepliesDays ledger old new zone (Some it) register form from to result =
    RepliesEnergyOver ledger old new zone it.days it.name form from to result

-- The contract of a function that responds by a route. The function queries the store as the route
-- requires, which changes no record. Unless memory runs out, it appends the complete response of
-- the route.
abbrev pub RepliesRoute : {B : Type 0} → (B → Ledger) → (old new : Office B) → RunContext
    → RunRoute → (from to : List ℕ) → {E : Type 0} → Result (Unit {0}) E → Type 0
RepliesRoute ledger old new context (Own route) from to result =
    let monitor = context.monitor.now in
    (new ≡ old) × OnOk result (to
    ≡ with_route_reply route monitor.counts monitor.states.items context.lacks.now from)
RepliesRoute ledger old new context Metrics from to result =
    let monitor = context.monitor.now in
    RepliesSite ledger old new (with_metrics_reply monitor.counts monitor.states.items)
    from to result
RepliesRoute ledger old new context Site from to result =
    RepliesSite ledger old new (with_site_over context.earlier.now.registers.now context.at.moment)
    from to result
RepliesRoute ledger old new context (Intervals meter span) from to result =
    RepliesRows ledger old new (λ facts. intervals_within facts meter span) intervals_text
    from to result
RepliesRoute ledger old new context (Entries meter first) from to result =
    RepliesRows ledger old new (λ facts. entries_within facts meter first MOST_ENTRIES)
    entries_text from to result
RepliesRoute ledger old new context (Voids meter) from to result =
    RepliesRows ledger old new (λ facts. voids_of facts meter) voids_text from to result
RepliesRoute ledger old new context (Energy register form) from to result =
    let earlier = context.earlier.now in
    RepliesDays ledger old new earlier.zone
    (find (λ it. is_named register it.name) earlier.registers.now) register form from to result
RepliesRoute ledger old new context (Meters register) from to result =
    RepliesRows ledger old new (λ facts. meters_named facts register) meters_text
    from to result

-- States that the client gets the complete response of the route. If memory ran out while the
-- response was built, the client gets nothing.
abbrev pub RespondsByRoute : {B : Type 0} → (B → Ledger) → (old new : Office B) → RunContext
    → RunRoute → ClientResponse → Type 0
RespondsByRoute ledger old new context route Open = ⊥
RespondsByRoute ledger old new context route (Replied text) =
    RepliesRoute ledger old new context route [] text.items {E = AllocError} (Ok tt)
RespondsByRoute ledger old new context route Failed =
    (text : List ℕ) × (fault : AllocError)
    × RepliesRoute ledger old new context route [] text (Err fault)

-- Definitions on the responses that contain many quarter hours and are therefore sent in chunks.

-- States the effect of starting a streamed response whose first chunk is `text`. `after` has the
-- rows of later chunks. If the program refused the query, there is no response yet, and if memory
-- ran out, the response is `Failed`. In both cases `after` equals `before`.
abbrev pub IsBegunWith : (text : Vec ℕ Global) → Result (Result RemainingRows Refusal) AllocError
    → (before after : Option RemainingRows) → Option ClientResponse → Type 0
IsBegunWith text (Ok (Ok left)) before after response =
    (after ≡ Some left) × (response ≡ Some (Replied text))
IsBegunWith text (Ok (Err why)) before after response =
    (after ≡ before) × (response ≡ None)
IsBegunWith text (Err fault) before after response =
    (after ≡ before) × (response ≡ Some Failed)

-- States that the client gets the first chunk of the response with the quarter hours of the meter
-- from `from` until `till`. `after` then has the rows for the later chunks. If memory ran out, the
-- client gets nothing.
pub record BeginsRows {B : Type 0} (ledger : B → Ledger) (old new : Office B)
    (meter : Option (List ℕ)) (from till : ℕ) (reply : List Share → List ℕ)
    (before after : Option RemainingRows) (response : ClientResponse) : Type 0 where
  pub it : Installation
  pub mid : Office B
  pub found : ReportsRow ledger old mid (Ok it) (λ facts. option_and_then (meter_of facts) meter)
  pub asks : OnlyAsks ledger old mid (Ok it)
  pub text : Vec ℕ Global
  pub result : Result (Result RemainingRows Refusal) AllocError
  pub begins : BeginsReply ledger mid new it from till reply text.items result
  pub is : IsBegunWith text result before after (Some response)

-- States that a function either starts a streamed response with the quarter hours of a meter, or
-- only queries the store and returns no response. If it returns none, the function's caller builds
-- the response.
abbrev pub MayBeginRows : {B : Type 0} → (B → Ledger) → (old new : Office B)
    → (meter : Option (List ℕ)) → (from till : ℕ) → (reply : List Share → List ℕ)
    → (before after : Option RemainingRows) → Option ClientResponse → Type 0
MayBeginRows ledger old new meter from till reply before after None =
    OnlyQueries ledger old new × (after ≡ before)
MayBeginRows ledger old new meter from till reply before after (Some response) =
    BeginsRows ledger old new meter from till reply before after response

-- States that a route (the parsed target of an HTTP request) asks for quarter hours of a meter, and
-- that the program starts the streamed response with them.
pub record BeginsRoute {B : Type 0} (ledger : B → Ledger) (old new : Office B) (route : RunRoute)
    (before after : Option RemainingRows) (response : ClientResponse) : Type 0 where
  pub meter : Option (List ℕ)
  pub from : ℕ
  pub till : ℕ
  pub is : route ≡ Intervals meter (Between from till)
  pub begins : BeginsRows ledger old new meter from till (with_rows []) before after response

-- States that a function either starts the streamed response of a route that requests quarter
-- hours, or only queries the store and returns no response. If it returns none, the function's
-- caller builds the response.
abbrev pub MayBeginRoute : {B : Type 0} → (B → Ledger) → (old new : Office B) → RunRoute
    → (before after : Option RemainingRows) → Option ClientResponse → Type 0
MayBeginRoute ledger old new route before after None =
    OnlyQueries ledger old new × (after ≡ before)
MayBeginRoute ledger old new route before after (Some response) =
    BeginsRoute ledger old new route before after response

-- States that a function starts the streamed response that contains all quarter hours of the meter
-- that the request names.
pub record BeginsAll {B : Type 0} (ledger : B → Ledger) (old new : Office B) (table : Table)
    (request : List ℕ) (before after : Option RemainingRows) (response : ClientResponse)
    : Type 0 where
  pub meter : Option (List ℕ)
  pub asks : AsksAllRows table request meter
  pub begins : BeginsRows ledger old new meter 0 18446744073709551615 (with_all_rows [])
      before after response

-- States that a function either starts a streamed response with all quarter hours of a meter, or
-- only queries the store and returns no response. If it returns none, the function's caller builds
-- the response.
abbrev pub MayBeginAll : {B : Type 0} → (B → Ledger) → (old new : Office B) → Table
    → (request : List ℕ) → (before after : Option RemainingRows) → Option ClientResponse → Type 0
MayBeginAll ledger old new table request before after None =
    OnlyQueries ledger old new × (after ≡ before)
MayBeginAll ledger old new table request before after (Some response) =
    BeginsAll ledger old new table request before after response

-- Definitions of the response that a client gets to an HTTP request: complete, in chunks, from the
-- cache, or status 503.

-- States that the client gets status 503, because the server rejects a command. If memory ran out,
-- the client gets nothing.
abbrev pub IsUnavailable : ClientResponse → Type 0
IsUnavailable Open = ⊥
IsUnavailable (Replied text) =
    text.items ≡ with_reply Unavailable (codes "application/json") (fault_text Unavailable) []
IsUnavailable Failed = Unit {0}

-- States that the client gets the complete response of the HTTP route `route`. Before it built the
-- response, the program at most queried its store.
pub record RespondsWhole {B : Type 0} (ledger : B → Ledger) (old new : Office B)
    (context : RunContext) (route : RunRoute) (response : ClientResponse)
    : Type 0 where
  pub mid : Office B
  pub looks : OnlyQueries ledger old mid
  pub responds : RespondsByRoute ledger mid new context route response

-- States that the client gets the response of a route of `sunreg run`: the complete response, or
-- the first chunk of a long response.
abbrev pub BeginsResponse : {B : Type 0} → (B → Ledger) → (old new : Office B) → RunContext
    → RunRoute → (before after : Option RemainingRows) → ClientResponse → Type 0
BeginsResponse ledger old new context route before after response =
    BeginsRoute ledger old new route before after response
    ⊎ ((after ≡ before) × RespondsWhole ledger old new context route response)

-- States that the program executes a request for a route that the crate `office_http` defines.
-- Before the program executed the request, it at most queried its store.
pub record Executes {B : Type 0} (ledger : B → Ledger) (at : ℕ) (old new : Office B)
    (request : List ℕ) (response : ClientResponse) : Type 0 where
  pub mid : Office B
  pub looks : OnlyQueries ledger old mid
  pub asks : Asks ledger at mid new request response
  pub lasts : Lasts ledger mid new

-- States that the client gets the response to a request for a route that the crate `office_http`
-- defines. If `rejects` is true, the request is a rejected command, which changes nothing and gets
-- status 503.
abbrev pub RespondsToOffice : {B : Type 0} → (B → Ledger) → (at : ℕ) → (old new : Office B)
    → Table → (request : List ℕ) → (before after : Option RemainingRows) → (rejects : Bool)
    → ClientResponse → Type 0
RespondsToOffice ledger at old new table request before after true response =
    (new ≡ old) × (after ≡ before) × IsUnavailable response
RespondsToOffice ledger at old new table request before after false response =
    BeginsAll ledger old new table request before after response
    ⊎ ((after ≡ before) × Executes ledger at old new request response)

-- States that the client gets the response to a request that no route of `sunreg run` matches. A
-- command is rejected if it has more bytes than may still be stored (`left`), or if a file of the
-- store is missing.
pub record ExecutesUnlessRejected {B : Type 0} (ledger : B → Ledger) (at : ℕ) (old new : Office B)
    (table : Table) (left : ℕ) (is_lost : Bool) (request : List ℕ)
    (before after : Option RemainingRows) (response : ClientResponse) : Type 0 where
  pub rejects : Bool
  pub tests : Rejects left is_lost request rejects
  pub responds : RespondsToOffice ledger at old new table request before after rejects response

-- States that the client gets the response of the request's route of `sunreg run`. A request for
-- any other route is executed, or rejected if it is a command that may not be stored.
abbrev pub RespondsBy : {B : Type 0} → (B → Ledger) → HttpPort → (old new : Office B)
    → (request : List ℕ) → RunContext → Option RunRoute
    → (before after : Option RemainingRows) → ClientResponse → Type 0
RespondsBy ledger port old new request context None before after response =
    ExecutesUnlessRejected ledger context.at.moment old new port.router port.room.left port.is_lost
    request before after response
RespondsBy ledger port old new request context (Some route) before after response =
    BeginsResponse ledger old new context route before after response

-- States that the client gets the response of the route that the client's request names. A request
-- with a rejected Host header gets an error response.
pub record RespondsTo {B : Type 0} (ledger : B → Ledger) (port : HttpPort) (old new : Office B)
    (request : List ℕ) (context : RunContext) (before after : Option RemainingRows)
    (response : ClientResponse) : Type 0 where
  pub route : Option RunRoute
  pub finds : IsFor (texts context.names.now) request route
  pub responds : RespondsBy ledger port old new request context route before after response

-- States that the client gets a cached response, whose request is equal to this client's request.
abbrev pub IsStored : Option stored.Replied → (request : List ℕ) → ClientResponse → Type 0
IsStored stored request Open = ⊥
IsStored stored request (Replied text) = WasReplied stored request text.items
IsStored stored request Failed = ⊥

-- States that the client gets either the cached response to an equal request, without a query to
-- the store, or a newly built response. The cache has only responses to queries for energy, so the
-- program executes every command.
abbrev pub RespondsAgain : {B : Type 0} → (B → Ledger) → HttpPort → (old new : Office B)
    → (request : List ℕ) → RunContext → (before after : Option RemainingRows) → ClientResponse
    → Type 0
RespondsAgain ledger port old new request context before after response =
    (AsksEnergy (texts context.names.now) request true × (new ≡ old) × (after ≡ before)
    × IsStored port.repeats.latest request response)
    ⊎ RespondsTo ledger port old new request context before after response

-- States that the program built the response to this HTTP request, or had the response in its
-- cache. Apart from executing this request, the program did nothing to its store.
pub record Answers {B : Type 0} (ledger : B → Ledger) (port : HttpPort) (old new : Office B)
    (request : List ℕ) (context : RunContext) : Type 0 where
  pub after : Option RemainingRows
  pub response : ClientResponse
  pub is : RespondsAgain ledger port old new request context None after response
