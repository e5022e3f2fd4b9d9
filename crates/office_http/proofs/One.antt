-- Lemmas: the specification allows at most one response to a request.
use Rattle.std.proofs.Common.{◌≡◌, ◌∙◌, ℕ, false, List, Option, Some, None, Result, inl, inr, refl, sym, ap, subst}
use Rattle.office_http.specs.declared.messages.commands.fault.CommandFault.{CommandFault}
use Rattle.office_http.specs.Messages.HeadTests.{Start, head_fault}
use Rattle.office_http.specs.Messages.Routing.Routes.{routes}
use Rattle.office_http.specs.Messages.Routing.Targets.{is_question, name_in, route_in}
use Rattle.office_http.specs.declared.messages.routing.routes.Route.{Route}
use Rattle.office_http.specs.declared.messages.routing.routes.Route.TheVariants as route
use Rattle.office_http.specs.declared.messages.status.Status.{Status}
use Rattle.office_http.proofs.MessagesLemmas.WholeLemmas.Unique.{one_request}
use Rattle.office_events.specs.declared.commands.Command.{Command}
use Rattle.office_http.specs.Messages.Offices.{Office}
use Rattle.office_http.specs.Messages.Replies.{ask, command_reply, found_reply, reply_bytes, reply_of, route_reply, unless_failed}
use Rattle.office_http.specs.Messages.Requests.{name_asked}
use Rattle.office_http.specs.Messages.WholeResponses.{BodyGives, RepliesToBadHead, RepliesToRequest}
use Rattle.office_http.specs.Wants.Bodies.{BodiesGiveOne}
use Rattle.office_http.specs.Laws.{RepliesAreOne}

by_route : (office : Office) (start : Start) (body : List ℕ) (g h : Result Command CommandFault) (at : Route) (taken : Option (List ℕ))
    → (is_question at ≡ false → g ≡ h) → route_reply office start body g at taken ≡ route_reply office start body h at taken
by_route office start body g h route.Days taken same = refl
by_route office start body g h route.Meter taken same = refl
by_route office start body g h route.Intervals taken same = refl
by_route office start body g h route.Poll taken same = refl
by_route office start body g h route.Devices taken same = ap (command_reply (ask office start body)) (same refl)
by_route office start body g h route.List taken same = ap (command_reply (ask office start body)) (same refl)
by_route office start body g h route.Registers taken same = ap (command_reply (ask office start body)) (same refl)
by_route office start body g h route.Install taken same = ap (command_reply (ask office start body)) (same refl)
by_route office start body g h route.Exchange taken same = ap (command_reply (ask office start body)) (same refl)
by_route office start body g h route.Reset taken same = ap (command_reply (ask office start body)) (same refl)
by_route office start body g h route.Rescale taken same = ap (command_reply (ask office start body)) (same refl)
by_route office start body g h route.Manual taken same = ap (command_reply (ask office start body)) (same refl)
by_route office start body g h route.Close taken same = ap (command_reply (ask office start body)) (same refl)
by_route office start body g h route.Void taken same = ap (command_reply (ask office start body)) (same refl)

by_found : (office : Office) (start : Start) (body : List ℕ) (g h : Result Command CommandFault) (found : Option Route) (taken : Option (List ℕ))
    → ((at : Route) → found ≡ Some at → is_question at ≡ false → g ≡ h) → found_reply office start body g found taken ≡ found_reply office start body h found taken
by_found office start body g h None taken same = refl
by_found office start body g h (Some at) taken same = by_route office start body g h at taken (same at refl)

by_tests : (office : Office) (start : Start) (body : List ℕ) (g h : Result Command CommandFault) (fault : Option Status) (found : Option Route) (taken : Option (List ℕ))
    → ((at : Route) → fault ≡ None → found ≡ Some at → is_question at ≡ false → g ≡ h)
    → unless_failed fault (found_reply office start body g found taken) ≡ unless_failed fault (found_reply office start body h found taken)
by_tests office start body g h None found taken same = by_found office start body g h found taken (λ at. same at refl)
by_tests office start body g h (Some status) found taken same = refl

one_given : BodiesGiveOne → (office : Office) (start : Start) (body : List ℕ) (g h : Result Command CommandFault) → BodyGives routes start body g → BodyGives routes start body h
    → reply_of office routes start body g ≡ reply_of office routes start body h
one_given bodies office start body g h a b =
    by_tests office start body g h (head_fault routes start) (route_in routes start.target) (name_in routes start.target)
    (λ at passes leads changes.
    let one = a at (record { passes = passes; leads = leads; changes = changes }) in
    let other = b at (record { passes = passes; leads = leads; changes = changes }) in
    bodies at (name_asked (name_in routes start.target)) body g h one.0 other.0 one.1 other.1)

to_requests : BodiesGiveOne → (office : Office) (bytes one other : List ℕ)
    → RepliesToRequest office routes bytes one → RepliesToRequest office routes bytes other → one ≡ other
to_requests bodies office bytes one other a b =
    let same = one_request routes bytes a.start b.start a.body b.body a.holds b.holds in
    let gives : BodyGives routes a.start a.body b.given =
    subst (λ (s : Start). BodyGives routes s a.body b.given) (sym same.one_start) (subst (λ t. BodyGives routes b.start t b.given) (sym same.one_body) b.gives) in
    a.is ∙ ap reply_bytes (one_given bodies office a.start a.body a.given b.given a.gives gives)
    ∙ ap (λ (s : Start). reply_bytes (reply_of office routes s a.body b.given)) same.one_start
    ∙ ap (λ t. reply_bytes (reply_of office routes b.start t b.given)) same.one_body ∙ sym b.is

-- If received bytes begin with an invalid head, then they contain no request. Their only response
-- is the response to the invalid head.
not_both : {A : Type 0} → (office : Office) (bytes one other : List ℕ) → RepliesToBadHead bytes one → RepliesToRequest office routes bytes other → A
not_both office bytes one other bad asked = absurd (bad.bad.none asked.holds.len asked.holds.head asked.holds.begins)

pub one_reply : BodiesGiveOne → RepliesAreOne
one_reply bodies office bytes one other (inl a) (inl b) = a.is ∙ sym b.is
one_reply bodies office bytes one other (inl a) (inr b) = not_both office bytes one other a b
one_reply bodies office bytes one other (inr a) (inl b) = not_both office bytes other one b a
one_reply bodies office bytes one other (inr a) (inr b) = to_requests bodies office bytes one other a b
