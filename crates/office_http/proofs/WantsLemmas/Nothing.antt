-- Lemmas on received bytes that contain no request for a command.
use Rattle.std.proofs.Common.{◌≡◌, ◌∙◌, ◌≢◌, ℕ, true, false, List, Some, None, Result, Ok, Err, refl, sym, ap, subst}
use Rattle.office_http.specs.Messages.Commands.Given.{Gives}
use Rattle.office_http.specs.declared.messages.commands.fault.CommandFault.{CommandFault}
use Rattle.office_http.specs.declared.messages.commands.fault.CommandFault.TheVariants.{Memory}
use Rattle.office_http.specs.Messages.Head.Heads.{IsBadHead}
use Rattle.office_http.specs.declared.messages.head.head.Head.{Head}
use Rattle.office_http.specs.declared.messages.head.head.HeadState.{HeadState}
use Rattle.office_http.specs.declared.messages.head.head.HeadState.TheVariants as head_state
use Rattle.office_http.specs.Messages.Asking.{TestsHead}
use Rattle.office_http.specs.Messages.HeadTests.{Start, head_fault, start_at}
use Rattle.office_http.specs.declared.messages.ask.Ask.TheVariants.{Command as AskedCommand, Question}
use Rattle.office_http.specs.declared.messages.post.Posted.{Posted}
use Rattle.office_http.specs.Messages.Routing.Routes.{Table}
use Rattle.office_http.specs.Messages.Routing.Targets.{is_question, name_in, name_of, route_in}
use Rattle.office_http.specs.declared.messages.routing.routes.Route.{Route}
use Rattle.office_http.specs.declared.messages.routing.targets.Found.{Found}
use Rattle.office_http.specs.declared.messages.status.Status.{Status}
use Rattle.office_http.proofs.MessagesLemmas.WholeLemmas.Unique.{request_of_whole, one_request}
use Rattle.office_http.specs.Messages.Whole.Whole.{Holds, HoldsRequest, IsWhole, TestsRequest, body_of}
use Rattle.office_events.specs.declared.commands.Command.{Command}
use Rattle.office_events.specs.declared.events.Asked.{Asked}
use Rattle.office_http.specs.Messages.Replies.{asked_of}
use Rattle.office_http.specs.Messages.Requests.{name_asked}
use Rattle.office_http.specs.Wants.Bodies.{BodiesGiveOne}
use Rattle.office_http.specs.Wants.Wanting.{AsksNothing, AsksOffice}

-- If received bytes begin with an invalid head, then they contain no request for a command.
in_bad_head : (table : Table) (bytes : List ℕ) → IsBadHead bytes → AsksNothing table bytes
in_bad_head table bytes bad asked asks = bad.none asks.holds.len asks.holds.head asks.holds.begins

-- If received bytes contain a request for a command, the head of that request is the parsed head.
start_is : (table : Table) (bytes : List ℕ) (at : Head) (asked : Asked) → IsWhole table bytes at → (asks : AsksOffice table bytes asked) → asks.start ≡ start_at bytes at
start_is table bytes at asked whole asks = (one_request table bytes asks.start (start_at bytes at) asks.body (body_of table bytes at) asks.holds (request_of_whole table bytes at whole)).one_start

body_is : (table : Table) (bytes : List ℕ) (at : Head) (asked : Asked) → IsWhole table bytes at → (asks : AsksOffice table bytes asked) → asks.body ≡ body_of table bytes at
body_is table bytes at asked whole asks = (one_request table bytes asks.start (start_at bytes at) asks.body (body_of table bytes at) asks.holds (request_of_whole table bytes at whole)).one_body

pub where_a_test_fails : (table : Table) (bytes : List ℕ) (seen : HeadState) (status : Status) → Holds table bytes seen → TestsRequest table bytes seen (Err status) → AsksNothing table bytes
where_a_test_fails table bytes head_state.Open status holds tests = absurd holds
where_a_test_fails table bytes head_state.TooLarge status holds tests = in_bad_head table bytes holds.0
where_a_test_fails table bytes head_state.NoHead status holds tests = in_bad_head table bytes holds.0
where_a_test_fails table bytes (head_state.Whole at) status holds tests = λ asked asks.
    let same = start_is table bytes at asked holds asks in
    let fails : head_fault table asks.start ≡ Some status = ap (head_fault table) same ∙ tests in
    cc (fails, asks.leads.passes)

pub in_a_question : (table : Table) (bytes : List ℕ) (seen : HeadState) (found : Found) → Holds table bytes seen → TestsRequest table bytes seen (Ok (Question found)) → AsksNothing table bytes
in_a_question table bytes head_state.Open found holds tests = absurd holds
in_a_question table bytes head_state.TooLarge found holds tests = cc tests
in_a_question table bytes head_state.NoHead found holds tests = cc tests
in_a_question table bytes (head_state.Whole at) found holds tests = λ asked asks.
    let same = start_is table bytes at asked holds asks in
    let route : route_in table asks.start.target ≡ Some found.route = ap (λ (s : Start). route_in table s.target) same ∙ tests.1.0.route in
    let is : asks.route ≡ found.route = cc (route, asks.leads.leads) in
    let question : is_question asks.route ≡ true = ap is_question is ∙ tests.1.1 in
    cc (question, asks.leads.changes)

pub asks_a_question : (table : Table) (bytes : List ℕ) (seen : HeadState) (found : Found) → Holds table bytes seen → TestsRequest table bytes seen (Ok (Question found)) → is_question found.route ≡ true
asks_a_question table bytes head_state.Open found holds tests = absurd holds
asks_a_question table bytes head_state.TooLarge found holds tests = cc tests
asks_a_question table bytes head_state.NoHead found holds tests = cc tests
asks_a_question table bytes (head_state.Whole at) found holds tests = tests.1.1

-- If received bytes contain a request for a command, then parsing the body of that request returns
-- the command.
gives_again : (table : Table) (bytes : List ℕ) (at : Head) (found : Found) (posted : Posted) (asked : Asked) → IsWhole table bytes at
    → TestsHead table (start_at bytes at) (Ok (AskedCommand found posted)) → (asks : AsksOffice table bytes asked)
    → Gives found.route (name_asked (name_of found)) (body_of table bytes at) (Ok asks.command)
gives_again table bytes at found posted asked whole tests asks =
    let same = start_is table bytes at asked whole asks in
    let body = body_is table bytes at asked whole asks in
    let leads : route_in table asks.start.target ≡ Some found.route = ap (λ (s : Start). route_in table s.target) same ∙ tests.1.0.route in
    let route : asks.route ≡ found.route = cc (leads, asks.leads.leads) in
    let name : name_in table asks.start.target ≡ name_of found = ap (λ (s : Start). name_in table s.target) same ∙ sym tests.1.0.name in
    subst (λ b. Gives found.route (name_asked (name_of found)) b (Ok asks.command)) body
    (subst (λ n. Gives found.route (name_asked n) asks.body (Ok asks.command)) name
    (subst (λ r. Gives r (name_asked (name_in table asks.start.target)) asks.body (Ok asks.command)) route asks.gives))

-- True if the fault of a request's body is a fault other than `Memory` (out of memory).
abbrev pub IsNoMemory : CommandFault → Type 0
IsNoMemory why = let given : Result Command CommandFault = Err why in given ≢ Err Memory

pub where_the_body_fails : BodiesGiveOne → (table : Table) (bytes : List ℕ) (at : Head) (found : Found) (posted : Posted) (why : CommandFault) → IsWhole table bytes at
    → TestsHead table (start_at bytes at) (Ok (AskedCommand found posted)) → Gives found.route (name_asked (name_of found)) (body_of table bytes at) (Err why)
    → IsNoMemory why → AsksNothing table bytes
where_the_body_fails bodies table bytes at found posted why whole tests gives memory = λ asked asks.
    let same = bodies found.route (name_asked (name_of found)) (body_of table bytes at) (Err why) (Ok asks.command) gives
    (gives_again table bytes at found posted asked whole tests asks) memory (λ e. cc e) in
    cc same

pub by_a_command : (table : Table) (bytes : List ℕ) (at : Head) (found : Found) (posted : Posted) (command : Command) (asked : Asked) → IsWhole table bytes at
    → TestsHead table (start_at bytes at) (Ok (AskedCommand found posted)) → Gives found.route (name_asked (name_of found)) (body_of table bytes at) (Ok command)
    → asked ≡ asked_of (start_at bytes at) (body_of table bytes at) command → AsksOffice table bytes asked
by_a_command table bytes at found posted command asked whole tests gives is = record {
  start = start_at bytes at;
  body = body_of table bytes at;
  holds = request_of_whole table bytes at whole;
  route = found.route;
  leads = record { passes = tests.0; leads = tests.1.0.route; changes = tests.1.1 };
  command = command;
  gives = subst (λ n. Gives found.route (name_asked n) (body_of table bytes at) (Ok command)) tests.1.0.name gives;
  is = is;
}
