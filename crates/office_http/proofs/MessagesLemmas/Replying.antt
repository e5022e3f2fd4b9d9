-- Lemmas on which response the specification allows: for a request whose head fails a test, for a
-- query, and for a command.
use Rattle.std.proofs.Common.{◌≡◌, ◌∙◌, ◌≢◌, ◌⊎◌, ℕ, Bool, true, false, List, Option, Some, None, Result, Ok, Err, inl, inr, refl, sym, ap, subst}
use Rattle.std.proofs.lemmas.Bool.{cond-true, cond-false}
use Rattle.office_http.specs.Messages.Commands.Given.{Gives}
use Rattle.office_http.specs.declared.messages.commands.fault.CommandFault.{CommandFault}
use Rattle.office_http.specs.declared.messages.commands.fault.CommandFault.TheVariants.{Malformed, Memory}
use Rattle.office_http.specs.declared.messages.head.head.Head.{Head}
use Rattle.office_http.specs.declared.messages.head.head.HeadState.{HeadState}
use Rattle.office_http.specs.declared.messages.head.head.HeadState.TheVariants as head_state
use Rattle.office_http.specs.Messages.Asking.{TestsHead}
use Rattle.office_http.specs.Messages.HeadTests.{Start, head_fault, start_at}
use Rattle.office_http.specs.declared.messages.ask.Ask.TheVariants.{Command as AskedCommand, Question}
use Rattle.office_http.specs.declared.messages.post.Posted.{Posted}
use Rattle.office_http.specs.Messages.Routing.Routes.{Table}
use Rattle.office_http.specs.Messages.Routing.Targets.{is_question, name_in, name_of, route_in}
use Rattle.office_http.specs.declared.messages.routing.routes.Route.{Route}
use Rattle.office_http.specs.declared.messages.routing.routes.Route.TheVariants as route
use Rattle.office_http.specs.declared.messages.routing.targets.Found.{Found}
use Rattle.office_http.specs.declared.messages.status.Status.{Status}
use Rattle.office_http.specs.declared.messages.status.Status.TheVariants.{BadRequest, FieldsTooLarge}
use Rattle.office_http.specs.Messages.Whole.Whole.{Holds, HoldsRequest, IsWhole, TestsRequest, body_of}
use Rattle.office_http.proofs.MessagesLemmas.WholeLemmas.Unique.{request_of_whole}
use Rattle.office_events.specs.declared.commands.Command.{Command}
use Rattle.office_http.specs.Messages.Offices.{Office}
use Rattle.office_http.specs.Messages.Replies.{ask, command_reply, fault, found_reply, question_reply, reply_bytes, reply_of, route_reply, unless_failed}
use Rattle.office_http.specs.Messages.Requests.{name_asked}
use Rattle.office_http.specs.Messages.WholeResponses.{BodyGives, IsCommand, IsReply, bad_head_status}

-- If a test of the request's head fails, the response does not depend on the request's body.
fails : (office : Office) (table : Table) (start : Start) (body : List ℕ) (given : Result Command CommandFault) (status : Status) → head_fault table start ≡ Some status
    → fault status ≡ reply_of office table start body given
fails office table start body given status h = sym (ap (λ o. unless_failed o (found_reply office start body given (route_in table start.target) (name_in table start.target))) h)

passes : (office : Office) (table : Table) (start : Start) (body : List ℕ) (given : Result Command CommandFault) (at : Route) (taken : Option (List ℕ)) → head_fault table start ≡ None
    → route_in table start.target ≡ Some at → taken ≡ name_in table start.target → route_reply office start body given at taken ≡ reply_of office table start body given
passes office table start body given at taken h leads name =
    ap (route_reply office start body given at) name
    ∙ sym (ap (λ r. found_reply office start body given r (name_in table start.target)) leads)
    ∙ sym (ap (λ o. unless_failed o (found_reply office start body given (route_in table start.target) (name_in table start.target))) h)

question_is : (office : Office) (start : Start) (body : List ℕ) (given : Result Command CommandFault) (at : Route) (taken : Option (List ℕ)) → is_question at ≡ true
    → question_reply office at taken ≡ route_reply office start body given at taken
question_is office start body given route.Devices taken h = cc h
question_is office start body given route.List taken h = cc h
question_is office start body given route.Registers taken h = cc h
question_is office start body given route.Install taken h = cc h
question_is office start body given route.Exchange taken h = cc h
question_is office start body given route.Reset taken h = cc h
question_is office start body given route.Rescale taken h = cc h
question_is office start body given route.Manual taken h = cc h
question_is office start body given route.Close taken h = cc h
question_is office start body given route.Void taken h = cc h
question_is office start body given route.Days taken h = refl
question_is office start body given route.Meter taken h = refl
question_is office start body given route.Intervals taken h = refl
question_is office start body given route.Poll taken h = refl

command_is : (office : Office) (start : Start) (body : List ℕ) (given : Result Command CommandFault) (at : Route) (taken : Option (List ℕ)) → is_question at ≡ false
    → command_reply (ask office start body) given ≡ route_reply office start body given at taken
command_is office start body given route.Devices taken h = refl
command_is office start body given route.List taken h = refl
command_is office start body given route.Registers taken h = refl
command_is office start body given route.Install taken h = refl
command_is office start body given route.Exchange taken h = refl
command_is office start body given route.Reset taken h = refl
command_is office start body given route.Rescale taken h = refl
command_is office start body given route.Manual taken h = refl
command_is office start body given route.Close taken h = refl
command_is office start body given route.Void taken h = refl
command_is office start body given route.Days taken h = cc h
command_is office start body given route.Meter taken h = cc h
command_is office start body given route.Intervals taken h = cc h
command_is office start body given route.Poll taken h = cc h

pub to_fault : (office : Office) (table : Table) (bytes : List ℕ) (seen : HeadState) (status : Status) → Holds table bytes seen → TestsRequest table bytes seen (Err status) → IsReply office table bytes (reply_bytes (fault status))
to_fault office table bytes head_state.Open status holds tests = absurd holds
to_fault office table bytes head_state.TooLarge status holds tests =
    let same : status ≡ FieldsTooLarge = cc tests in
    let of_head : bad_head_status bytes ≡ FieldsTooLarge = cond-true _ _ _ holds.1 in
    inl record { bad = holds.0; is = ap (λ s. reply_bytes (fault s)) (same ∙ sym of_head) }
to_fault office table bytes head_state.NoHead status holds tests =
    let same : status ≡ BadRequest = cc tests in
    let of_head : bad_head_status bytes ≡ BadRequest = cond-false _ _ _ holds.1 in
    inl record { bad = holds.0; is = ap (λ s. reply_bytes (fault s)) (same ∙ sym of_head) }
to_fault office table bytes (head_state.Whole at) status holds tests =
    let start = start_at bytes at in
    let body = body_of table bytes at in
    let none : BodyGives table start body (Err Malformed) = λ r c. cc (tests, c.passes) in
    inr record {
      start = start;
      body = body;
      holds = request_of_whole table bytes at holds;
      given = Err Malformed;
      gives = none;
      is = ap reply_bytes (fails office table start body (Err Malformed) status tests);
    }

pub to_question : (office : Office) (table : Table) (bytes : List ℕ) (seen : HeadState) (found : Found) → Holds table bytes seen → TestsRequest table bytes seen (Ok (Question found))
    → IsReply office table bytes (reply_bytes (question_reply office found.route (name_of found)))
to_question office table bytes head_state.Open found holds tests = absurd holds
to_question office table bytes head_state.TooLarge found holds tests = cc tests
to_question office table bytes head_state.NoHead found holds tests = cc tests
to_question office table bytes (head_state.Whole at) found holds tests =
    let start = start_at bytes at in
    let body = body_of table bytes at in
    let none : BodyGives table start body (Err Malformed) = λ r c. cc (tests.1.0.route, c.leads, tests.1.1, c.changes) in
    inr record {
      start = start;
      body = body;
      holds = request_of_whole table bytes at holds;
      given = Err Malformed;
      gives = none;
      is = ap reply_bytes (question_is office start body (Err Malformed) found.route (name_of found) tests.1.1 ∙ passes office table start body (Err Malformed) found.route (name_of found) tests.0 tests.1.0.route tests.1.0.name);
    }

pub to_command : (office : Office) (table : Table) (bytes : List ℕ) (at : Head) (found : Found) (posted : Posted) (given : Result Command CommandFault) → IsWhole table bytes at
    → TestsHead table (start_at bytes at) (Ok (AskedCommand found posted)) → Gives found.route (name_asked (name_of found)) (body_of table bytes at) given → given ≢ Err Memory
    → IsReply office table bytes (reply_bytes (command_reply (ask office (start_at bytes at) (body_of table bytes at)) given))
to_command office table bytes at found posted given holds tests gives memory =
    let start = start_at bytes at in
    let body = body_of table bytes at in
    let by_name : Gives found.route (name_asked (name_in table start.target)) body given = subst (λ n. Gives found.route (name_asked n) body given) tests.1.0.name gives in
    let all : BodyGives table start body given = λ r c. (
      let same : found.route ≡ r = cc (tests.1.0.route, c.leads) in
          subst (λ x. Gives x (name_asked (name_in table start.target)) body given) same by_name,
      memory,
    ) in
    inr record {
      start = start;
      body = body;
      holds = request_of_whole table bytes at holds;
      given = given;
      gives = all;
      is = ap reply_bytes (command_is office start body given found.route (name_of found) tests.1.1 ∙ passes office table start body given found.route (name_of found) tests.0 tests.1.0.route tests.1.0.name);
    }
