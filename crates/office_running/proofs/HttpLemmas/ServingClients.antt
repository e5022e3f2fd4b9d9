-- Lemmas: the program's state after HTTP connections follows from the requests that it executed,
-- one request after the other.
use Rattle.std.proofs.Common.{◌≡◌, ◌⊎◌, inl, inr, ℕ, true, false, Bool, List, [], ◌∷◌, ◌++◌, Option, Some, None, Result, Ok, Err, refl, sym, ap, ◌∙◌, subst}
use Rattle.std.specs.Option.{option_and_then}
use Rattle.std.specs.declared.alloc.AllocError.{AllocError}
use Rattle.std.specs.declared.alloc.Global.{Global}
use Rattle.std.specs.declared.vec.Vec.{Vec}
use Rattle.carried_books.specs.declared.joining.earlier.EarlierRegister.{EarlierRegister}
use Rattle.energy_report.specs.declared.form.ReportForm.{ReportForm}
use Rattle.office_http.specs.Messages.Hosts.{may_ask_in}
use Rattle.office_http.specs.Messages.Routing.Routes.{Table}
use Rattle.office_http.specs.declared.messages.head.head.HeadState.{HeadState}
use Rattle.interval_core.specs.declared.shares.Share.{Share}
use Rattle.interval_core.specs.declared.zone.Zone.{Zone}
use Rattle.office_books.specs.Ledgers.{Ledger}
use Rattle.office_books.specs.declared.spans.Span.TheVariants.{Between}
use Rattle.office_core.specs.Asking.{OnlyAsks, ReportsRow}
use Rattle.office_core.specs.Standing.{After, Stands}
use Rattle.office_core.specs.declared.office.Office.{Office}
use Rattle.office_events.specs.declared.questions.Installation.{Installation}
use Rattle.office_events.specs.declared.refusals.Refusal.{Refusal}
use Rattle.office_http.proofs.ConnectionsLemmas.Served.{handled}
use Rattle.office_http.specs.Connections.Connections.{Connection, ServesOne, history_with}
use Rattle.office_http.specs.Connections.Named.{MayAsk}
use Rattle.office_http.specs.Serving.{Lasts, with_asked}
use Rattle.office_books.specs.Meters.{meter_of}
use Rattle.office_books.specs.History.{History}
use Rattle.run_http.specs.Answer.{Asks}
use Rattle.office_running.specs.Http.Clients.{AreAt, OnlyQueries, ServesClients}
use Rattle.run_http.specs.OfficeRequests.{AsksAllRows}
use Rattle.run_http.specs.Pieces.{BeginsReply, ReportsOn, with_all_rows, with_rows}
use Rattle.office_running.specs.Http.Responses.{BeginsResponse, BeginsRows, ExecutesUnlessRejected, IsBegunWith, MayBeginAll, MayBeginRoute, MayBeginRows, RepliesDays, RepliesRoute, RespondsByRoute, RespondsToOffice}
use Rattle.run_http.specs.StatusRoute.{IsFor, IsRunRoute}
use Rattle.run_http.specs.declared.answer.ClientResponse.{ClientResponse}
use Rattle.run_http.specs.declared.answer.ClientResponse.TheVariants.{Open, Replied, Failed}
use Rattle.run_http.specs.declared.pieces.RemainingRows.{RemainingRows}
use Rattle.run_http.specs.declared.route.RunRoute.{RunRoute}
use Rattle.run_http.specs.declared.route.RunRoute.TheVariants.{Own, Metrics, Site, Intervals, Entries, Voids, Energy, Meters}
use Rattle.office_running.specs.declared.http.run_context.RunContext.{RunContext}

pub nobody_asks : {B : Type 0} (names : List (List ℕ)) (at : ℕ) (ledger : B → Ledger) (office : Office B) → ServesClients names at ledger office office
nobody_asks names at ledger office = record {
  stands = λ past stands clean. record { connections = []; each = tt; stands = stands };
  clean = λ clean. clean;
  zone = refl;
}

after_both : {names : List (List ℕ)} (past : History) (later earlier : List (Connection names))
    → history_with past (later ++ earlier) ≡ history_with (history_with past earlier) later
after_both past [] earlier = refl
after_both past (one ∷ later) earlier = ap (λ h. with_asked h one.at one.asked) (after_both past later earlier)

each_of_both : {names : List (List ℕ)} (at : ℕ) (later earlier : List (Connection names)) → AreAt at later → AreAt at earlier → AreAt at (later ++ earlier)
each_of_both at [] earlier a b = b
each_of_both at (one ∷ later) earlier a b = (a.0, each_of_both at later earlier a.1 b)

pub both_ask : {B : Type 0} (names : List (List ℕ)) (at : ℕ) (ledger : B → Ledger) (a b c : Office B) → ServesClients names at ledger a b → ServesClients names at ledger b c
    → ServesClients names at ledger a c
both_ask names at ledger a b c first next = record {
  stands = λ past stands clean.
      let one = first.stands past stands (next.clean clean) in
      let after = next.stands (history_with past one.connections) one.stands clean in
      record {
        connections = after.connections ++ one.connections;
        each = each_of_both at after.connections one.connections after.each one.each;
        stands =
            let P : History → Type 0 = λ h. Stands ledger h c in
            subst P (sym (after_both past after.connections one.connections)) after.stands;
      };
  clean = λ clean. first.clean (next.clean clean);
  zone = next.zone ∙ first.zone;
}

-- Lemmas: if the program executes a request for a route that the crate `office_http` defines, then
-- the request's Host header was accepted.

may_of : (may : Bool) (bytes : List ℕ) (head_state : HeadState) → IsRunRoute may bytes head_state None → may ≡ true
may_of true bytes head_state is = refl
may_of false bytes head_state is = cc is

-- If `sunreg run` has no route for a request, then the request's Host header was accepted before. A
-- request with another host gets status 421 instead.
pub may_ask_of : (names : List (List ℕ)) (request : List ℕ) → IsFor names request None → (left read : List ℕ) → request ≡ read ++ left → MayAsk names read
may_ask_of names request for left read is = record {
  tested = request;
  same = inr (record { rest = left; is = is });
  head_state = for.head_state;
  finds = for.looks;
  may = may_of (may_ask_in names request for.head_state) request for.head_state for.asks;
}

asked_once : {B : Type 0} (names : List (List ℕ)) (ledger : B → Ledger) (at : ℕ) (old new : Office B) (request : List ℕ) (asked : ClientResponse)
    → ((left read : List ℕ) → request ≡ read ++ left → MayAsk names read)
    → Asks ledger at old new request asked → After ledger old new (λ past. ServesOne names at ledger past new)
asked_once names ledger at old new request Open may h = handled names ledger at old new _ _ (may h.1.left) h.1.handles
asked_once names ledger at old new request (Replied reply) may (inl h) = handled names ledger at old new _ _ (may h.left) h.handles
asked_once names ledger at old new request (Replied reply) may (inr h) = handled names ledger at old new _ _ (may h.left) h.handles
asked_once names ledger at old new request Failed may (reply, inl h) = handled names ledger at old new _ _ (may h.left) h.handles
asked_once names ledger at old new request Failed may (reply, inr (inl h)) = handled names ledger at old new _ _ (may h.left) h.handles
asked_once names ledger at old new request Failed may (reply, inr (inr h)) = handled names ledger at old new _ _ (may h.left) h.handles

pub one_asks : {B : Type 0} (names : List (List ℕ)) (ledger : B → Ledger) (at : ℕ) (old new : Office B) (request : List ℕ) (asked : ClientResponse)
    → ((left read : List ℕ) → request ≡ read ++ left → MayAsk names read)
    → Asks ledger at old new request asked → Lasts ledger old new → ServesClients names at ledger old new
one_asks names ledger at old new request asked may asks lasts = record {
  stands = λ past stands clean.
      let served = asked_once names ledger at old new request asked may asks past stands clean in
      record { connections = served.connection ∷ []; each = (served.moment, tt); stands = served.stands };
  clean = lasts.clean;
  zone = lasts.zone;
}

-- Lemmas: queries of `sunreg run` leave the program's state unchanged.

pub queries_nothing : {B : Type 0} (ledger : B → Ledger) (office : Office B) → OnlyQueries ledger office office
queries_nothing ledger office = record { stands = λ past stands. stands; clean = λ clean. clean; zone = refl }

pub both_query : {B : Type 0} (ledger : B → Ledger) (a b c : Office B) → OnlyQueries ledger a b → OnlyQueries ledger b c → OnlyQueries ledger a c
both_query ledger a b c first next = record {
  stands = λ past stands. next.stands past (first.stands past stands);
  clean = λ clean. first.clean (next.clean clean);
  zone = next.zone ∙ first.zone;
}

pub queries_serve : {B : Type 0} (names : List (List ℕ)) (at : ℕ) (ledger : B → Ledger) (old new : Office B) → OnlyQueries ledger old new
    → ServesClients names at ledger old new
queries_serve names at ledger old new queries = record {
  stands = λ past stands clean. record { connections = []; each = tt; stands = queries.stands past stands };
  clean = queries.clean;
  zone = queries.zone;
}

pub queries_by : {B T : Type 0} (ledger : B → Ledger) (old new : Office B) (answer : Result T Refusal) → OnlyAsks ledger old new answer → OnlyQueries ledger old new
queries_by ledger old new answer asks = record { stands = asks.stands; clean = asks.clean; zone = asks.zone }

pub queries_reported : {B E : Type 0} (ledger : B → Ledger) (old new : Office B) (left later : RemainingRows) (seconds : ℕ) (from to : List ℕ)
    (result : Result (Result (Unit {0}) Refusal) E) → ReportsOn ledger old new left later seconds from to result → OnlyQueries ledger old new
queries_reported ledger old new left later seconds from to result reports = queries_by ledger old new reports.answer reports.asks

days_query : {B E : Type 0} (ledger : B → Ledger) (old new : Office B) (zone : Zone) (earlier : Option EarlierRegister) (register : Option (List ℕ)) (form : ReportForm)
    (from to : List ℕ) (result : Result (Unit {0}) E) → RepliesDays ledger old new zone earlier register form from to result → OnlyQueries ledger old new
days_query ledger old new zone None register form from to result replies = queries_by ledger old new replies.answer replies.asks
days_query ledger old new zone (Some it) register form from to result replies = queries_by ledger old new replies.answer replies.asks

route_queries : {B E : Type 0} (ledger : B → Ledger) (old new : Office B) (context : RunContext) (route : RunRoute) (from to : List ℕ)
    (result : Result (Unit {0}) E) → RepliesRoute ledger old new context route from to result → OnlyQueries ledger old new
route_queries ledger old new context (Own route) from to result replies =
    subst (λ it. OnlyQueries ledger old it) (sym replies.0) (queries_nothing ledger old)
route_queries ledger old new context Metrics from to result replies = queries_by ledger old new replies.answer replies.asks
route_queries ledger old new context Site from to result replies = queries_by ledger old new replies.answer replies.asks
route_queries ledger old new context (Intervals meter span) from to result replies = queries_by ledger old new replies.answer replies.asks
route_queries ledger old new context (Entries meter first) from to result replies = queries_by ledger old new replies.answer replies.asks
route_queries ledger old new context (Voids meter) from to result replies = queries_by ledger old new replies.answer replies.asks
route_queries ledger old new context (Energy register form) from to result replies = days_query ledger old new _ _ register form from to result replies
route_queries ledger old new context (Meters register) from to result replies = queries_by ledger old new replies.answer replies.asks

pub response_queries : {B : Type 0} (ledger : B → Ledger) (old new : Office B) (context : RunContext) (route : RunRoute) (response : ClientResponse)
    → RespondsByRoute ledger old new context route response → OnlyQueries ledger old new
response_queries ledger old new context route Open responds = absurd responds
response_queries ledger old new context route (Replied text) responds = route_queries {E = AllocError} ledger old new context route [] text.items (Ok tt) responds
response_queries ledger old new context route Failed responds = route_queries ledger old new context route [] responds.0 (Err responds.1) responds.2

-- Lemmas: a response with many quarter hours is started as a streamed response, or the program only
-- queries its store.

-- Suppose that the store has the meter, and a function tried to start a streamed response that
-- contains the meter's quarter hours. Then the client got the first chunk, or the program only
-- queried its store (`MayBeginRows`).
pub begins : {B : Type 0} (ledger : B → Ledger) (old mid new : Office B) (meter : Option (List ℕ)) (from till : ℕ) (reply : List Share → List ℕ) (it : Installation)
    (text : Vec ℕ Global) (begun : Result (Result RemainingRows Refusal) AllocError) (before after : Option RemainingRows) (result : Option ClientResponse)
    → ReportsRow ledger old mid (Ok it) (λ facts. option_and_then (meter_of facts) meter) → OnlyAsks ledger old mid (Ok it)
    → BeginsReply ledger mid new it from till reply text.items begun → IsBegunWith text begun before after result
    → MayBeginRows ledger old new meter from till reply before after result
begins ledger old mid new meter from till reply it text (Ok (Ok left)) before after result found asks replies is =
    subst (λ response. MayBeginRows ledger old new meter from till reply before after response) (sym is.1)
    (record { it = it; mid = mid; found = found; asks = asks; text = text; result = Ok (Ok left); begins = replies; is = (is.0, refl) })
begins ledger old mid new meter from till reply it text (Ok (Err why)) before after result found asks replies is =
    subst (λ response. MayBeginRows ledger old new meter from till reply before after response) (sym is.1)
    (both_query ledger old mid new (queries_by ledger old mid (Ok it) asks) (queries_by ledger mid new replies.answer replies.asks), is.0)
begins ledger old mid new meter from till reply it text (Err fault) before after result found asks replies is =
    subst (λ response. MayBeginRows ledger old new meter from till reply before after response) (sym is.1)
    (record { it = it; mid = mid; found = found; asks = asks; text = text; result = Err fault; begins = replies; is = (is.0, refl) })

pub begun_queries : {B : Type 0} (ledger : B → Ledger) (old new : Office B) (meter : Option (List ℕ)) (from till : ℕ) (reply : List Share → List ℕ)
    (before after : Option RemainingRows) (response : ClientResponse) → BeginsRows ledger old new meter from till reply before after response
    → OnlyQueries ledger old new
begun_queries ledger old new meter from till reply before after response has =
    both_query ledger old has.mid new (queries_by ledger old has.mid (Ok has.it) has.asks) (queries_by ledger has.mid new has.begins.answer has.begins.asks)

-- Suppose that a function starts a streamed response that contains a meter's quarter hours, or only
-- queries the store. Then `MayBeginRoute` is true of a route that requests these quarter hours.
pub of_route : {B : Type 0} (ledger : B → Ledger) (old new : Office B) (route : RunRoute) (meter : Option (List ℕ)) (from till : ℕ)
    (before after : Option RemainingRows) (result : Option ClientResponse) → route ≡ Intervals meter (Between from till)
    → MayBeginRows ledger old new meter from till (with_rows []) before after result → MayBeginRoute ledger old new route before after result
of_route ledger old new route meter from till before after None is may = may
of_route ledger old new route meter from till before after (Some response) is may =
    record { meter = meter; from = from; till = till; is = is; begins = may }

pub of_request : {B : Type 0} (ledger : B → Ledger) (old new : Office B) (table : Table) (request : List ℕ) (meter : Option (List ℕ))
    (before after : Option RemainingRows) (result : Option ClientResponse) → AsksAllRows table request meter
    → MayBeginRows ledger old new meter 0 18446744073709551615 (with_all_rows []) before after result → MayBeginAll ledger old new table request before after result
of_request ledger old new table request meter before after None asks may = may
of_request ledger old new table request meter before after (Some response) asks may = record { meter = meter; asks = asks; begins = may }

-- Lemmas: the response to a request changes the program's state only by executing this request,
-- after its Host header was accepted.

office_serves : {B : Type 0} (names : List (List ℕ)) (ledger : B → Ledger) (at : ℕ) (old new : Office B) (table : Table) (request : List ℕ)
    (before after : Option RemainingRows) (rejects : Bool) (response : ClientResponse) → IsFor names request None
    → RespondsToOffice ledger at old new table request before after rejects response → ServesClients names at ledger old new
office_serves names ledger at old new table request before after true response is responds =
    subst (λ it. ServesClients names at ledger old it) (sym responds.0) (nobody_asks names at ledger old)
office_serves names ledger at old new table request before after false response is (inl has) =
    queries_serve names at ledger old new (begun_queries ledger old new has.meter 0 18446744073709551615 (with_all_rows []) before after response has.begins)
office_serves names ledger at old new table request before after false response is (inr (kept, has)) =
    both_ask names at ledger old has.mid new (queries_serve names at ledger old has.mid has.looks)
    (one_asks names ledger at has.mid new request response (may_ask_of names request is) has.asks has.lasts)

pub executes : {B : Type 0} (names : List (List ℕ)) (ledger : B → Ledger) (at : ℕ) (old new : Office B) (table : Table) (left : ℕ) (is_lost : Bool)
    (request : List ℕ) (before after : Option RemainingRows) (response : ClientResponse) → IsFor names request None
    → ExecutesUnlessRejected ledger at old new table left is_lost request before after response → ServesClients names at ledger old new
executes names ledger at old new table left is_lost request before after response is has =
    office_serves names ledger at old new table request before after has.rejects response is has.responds

pub begun_serves : {B : Type 0} (names : List (List ℕ)) (ledger : B → Ledger) (at : ℕ) (old new : Office B) (context : RunContext) (route : RunRoute)
    (before after : Option RemainingRows) (response : ClientResponse) → BeginsResponse ledger old new context route before after response
    → ServesClients names at ledger old new
begun_serves names ledger at old new context route before after response (inl has) =
    queries_serve names at ledger old new (begun_queries ledger old new has.meter has.from has.till (with_rows []) before after response has.begins)
begun_serves names ledger at old new context route before after response (inr (kept, has)) =
    queries_serve names at ledger old new
    (both_query ledger old has.mid new has.looks (response_queries ledger has.mid new context route response has.responds))
