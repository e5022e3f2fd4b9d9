-- Lemmas: a request's body always parses to the same command or fault, unless memory runs out.
use Rattle.std.proofs.Common.{◌≡◌, ◌∙◌, ◌≢◌, ◌⊎◌, ℕ, List, Option, Some, Result, Ok, Err, inl, inr, refl, sym, ap, subst}
use Rattle.serde_json.specs.Data.{Data}
use Rattle.serde_json.specs.Read.{read}
use Rattle.office_http.specs.Messages.Commands.Commands.{command_of}
use Rattle.office_http.specs.Messages.Commands.Given.{Gives, GivesJson, GivesList, IsBody, IsJson, IsListBody, IsNoJson, reported}
use Rattle.office_http.specs.declared.messages.commands.fault.CommandFault.{CommandFault}
use Rattle.office_http.specs.declared.messages.commands.fault.CommandFault.TheVariants.{Malformed, Negative, Faulty, Memory}
use Rattle.office_http.specs.declared.messages.routing.routes.Route.{Route}
use Rattle.office_http.specs.declared.messages.routing.routes.Route.TheVariants as route
use Rattle.office_events.specs.declared.commands.Command.{Command}
use Rattle.office_events.specs.declared.commands.Command.TheVariants.{PutList}
use Rattle.read_plan.specs.PlannedLists.{ListsArePlannedOnce}
use Rattle.read_plan.specs.PlannedLists.{Planned}
use Rattle.point_list.specs.Laws.{SpelledListIsOne}

-- A JSON text has only one value: two values that parsing the text returns are equal.
one_value : (bytes : List ℕ) (d e : Data) → IsJson bytes d → IsJson bytes e → d ≡ e
one_value bytes d e one other = let both : Some d ≡ Some e = sym one.value ∙ other.value in cc both

one_json : (at : Route) (name : Option (List ℕ)) (body : List ℕ) (one other : Result Command CommandFault)
    → IsBody at name body one → IsBody at name body other → one ≢ Err Memory → other ≢ Err Memory → one ≡ other
one_json at name body one other (inl a) (inl b) m n =
    let same : a.value ≡ b.value = one_value body a.value b.value a.is b.is in
    a.gives ∙ ap (λ (d : Data). reported (command_of at name d)) same ∙ sym b.gives
one_json at name body one other (inl a) (inr (inl b)) m n = absurd (b.none a.value a.is)
one_json at name body one other (inl a) (inr (inr b)) m n = absurd (n b)
one_json at name body one other (inr (inl a)) (inl b) m n = absurd (a.none b.value b.is)
one_json at name body one other (inr (inl a)) (inr (inl b)) m n = a.gives ∙ sym b.gives
one_json at name body one other (inr (inl a)) (inr (inr b)) m n = absurd (n b)
one_json at name body one other (inr (inr a)) b m n = absurd (m a)

same_list : ListsArePlannedOnce → SpelledListIsOne → (name : Option (List ℕ)) (body : List ℕ) (c d : Command) → GivesList name body c → GivesList name body d → c ≡ d
same_list planned spelled name body c d a b =
    let points = spelled body a.list.points b.list.points a.spelled b.spelled in
    let same : a.list ≡ b.list = planned a.list b.list a.planned b.planned points in
    a.is ∙ ap (λ (list : Planned). PutList (record { device = name; list = list })) same ∙ sym b.is

one_list : ListsArePlannedOnce → SpelledListIsOne → (name : Option (List ℕ)) (body : List ℕ) (one other : Result Command CommandFault)
    → IsListBody name body one → IsListBody name body other → one ≢ Err Memory → other ≢ Err Memory → one ≡ other
one_list planned spelled name body (Ok c) (Ok d) a b m n = ap (λ (x : Command). Ok x) (same_list planned spelled name body c d a b)
one_list planned spelled name body (Ok c) (Err Malformed) a b m n = absurd b
one_list planned spelled name body (Ok c) (Err Negative) a b m n = absurd b
one_list planned spelled name body (Ok c) (Err (Faulty rows)) a b m n = absurd (b.1 (b.0 ∙ a.spelled.faultless))
one_list planned spelled name body (Ok c) (Err Memory) a b m n = absurd (n refl)
one_list planned spelled name body (Err Malformed) other a b m n = absurd a
one_list planned spelled name body (Err Negative) other a b m n = absurd a
one_list planned spelled name body (Err (Faulty rows)) (Ok d) a b m n = absurd (a.1 (a.0 ∙ b.spelled.faultless))
one_list planned spelled name body (Err (Faulty rows)) (Err Malformed) a b m n = absurd b
one_list planned spelled name body (Err (Faulty rows)) (Err Negative) a b m n = absurd b
one_list planned spelled name body (Err (Faulty rows)) (Err (Faulty others)) a b m n = ap (λ rs. Err (Faulty rs)) (a.0 ∙ sym b.0)
one_list planned spelled name body (Err (Faulty rows)) (Err Memory) a b m n = absurd (n refl)
one_list planned spelled name body (Err Memory) other a b m n = absurd (m refl)

pub one_command : ListsArePlannedOnce → SpelledListIsOne → (at : Route) (name : Option (List ℕ)) (body : List ℕ) (one other : Result Command CommandFault)
    → Gives at name body one → Gives at name body other → one ≢ Err Memory → other ≢ Err Memory → one ≡ other
one_command planned spelled route.List name body one other a b m n = one_list planned spelled name body one other a b m n
one_command planned spelled route.Devices name body one other a b m n = one_json route.Devices name body one other a b m n
one_command planned spelled route.Registers name body one other a b m n = one_json route.Registers name body one other a b m n
one_command planned spelled route.Install name body one other a b m n = one_json route.Install name body one other a b m n
one_command planned spelled route.Exchange name body one other a b m n = one_json route.Exchange name body one other a b m n
one_command planned spelled route.Reset name body one other a b m n = one_json route.Reset name body one other a b m n
one_command planned spelled route.Rescale name body one other a b m n = one_json route.Rescale name body one other a b m n
one_command planned spelled route.Manual name body one other a b m n = one_json route.Manual name body one other a b m n
one_command planned spelled route.Close name body one other a b m n = one_json route.Close name body one other a b m n
one_command planned spelled route.Void name body one other a b m n = one_json route.Void name body one other a b m n
one_command planned spelled route.Days name body one other a b m n = one_json route.Days name body one other a b m n
one_command planned spelled route.Meter name body one other a b m n = one_json route.Meter name body one other a b m n
one_command planned spelled route.Intervals name body one other a b m n = one_json route.Intervals name body one other a b m n
one_command planned spelled route.Poll name body one other a b m n = one_json route.Poll name body one other a b m n
