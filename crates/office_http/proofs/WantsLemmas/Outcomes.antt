-- Lemmas on the result of parsing a complete request: a command, or the fault of its body.
use Rattle.std.proofs.Common.{◌≡◌, ◌∙◌, ◌≢◌, ℕ, List, Option, Result, Ok, Err, inr, refl, sym, ap, subst}
use Rattle.office_http.specs.Messages.Commands.Given.{Gives}
use Rattle.office_http.specs.declared.messages.commands.fault.CommandFault.{CommandFault}
use Rattle.office_http.specs.declared.messages.commands.fault.CommandFault.TheVariants.{Memory}
use Rattle.office_http.specs.declared.messages.head.head.Head.{Head}
use Rattle.office_http.specs.Messages.Asking.{TestsHead}
use Rattle.office_http.specs.Messages.HeadTests.{start_at}
use Rattle.office_http.specs.declared.messages.ask.Ask.TheVariants.{Command as AskedCommand}
use Rattle.office_http.specs.declared.messages.post.Posted.{Posted}
use Rattle.office_http.specs.Messages.Routing.Routes.{Table}
use Rattle.office_http.specs.Messages.Routing.Targets.{name_of}
use Rattle.office_http.specs.declared.messages.routing.targets.Found.{Found}
use Rattle.office_http.specs.Messages.Whole.Whole.{IsWhole, body_of}
use Rattle.office_events.specs.declared.commands.Command.{Command}
use Rattle.office_events.specs.declared.events.Asked.{Asked}
use Rattle.office_http.specs.Messages.Kinds.{done_text}
use Rattle.office_http.specs.Messages.Offices.{Office}
use Rattle.office_http.specs.Messages.Replies.{ask, asked_of, command_reply, reply_bytes, row_reply}
use Rattle.office_http.specs.Messages.Requests.{kept_request, name_asked}
use Rattle.office_http.specs.Messages.WholeResponses.{IsReply}
use Rattle.office_http.proofs.WantsLemmas.Nothing.{by_a_command, where_the_body_fails}
use Rattle.office_http.specs.Wants.Bodies.{BodiesGiveOne}
use Rattle.office_http.specs.Wants.Wanting.{IsAskedFor, IsNoCommand}

pub kept_same : (method target body other_method other_target other_body : List ℕ) → method ≡ other_method → target ≡ other_target → body ≡ other_body
    → kept_request method target body ≡ kept_request other_method other_target other_body
kept_same method target body other_method other_target other_body m t b = λ i. kept_request (m i) (t i) (b i)

-- True if the received bytes contain a complete request for a command, and its body parses to the
-- given command or fault.
pub record IsFoundOut (table : Table) (bytes : List ℕ) (at : Head) (found : Found) (posted : Posted) (given : Result Command CommandFault) : Type 0 where
  pub holds : IsWhole table bytes at
  pub tests : TestsHead table (start_at bytes at) (Ok (AskedCommand found posted))
  pub gives : Gives found.route (name_asked (name_of found)) (body_of table bytes at) given
  pub memory : given ≢ Err Memory
  pub reply : (office : Office) → IsReply office table bytes (reply_bytes (command_reply (ask office (start_at bytes at) (body_of table bytes at)) given))

pub found_out : (table : Table) (bytes : List ℕ) (at : Head) (found : Found) (posted : Posted) (given : Result Command CommandFault) (name : Option (List ℕ)) (body : List ℕ)
    → IsWhole table bytes at → TestsHead table (start_at bytes at) (Ok (AskedCommand found posted))
    → name ≡ name_asked (name_of found) → body ≡ body_of table bytes at → Gives found.route name body given → given ≢ Err Memory
    → ((office : Office) → IsReply office table bytes (reply_bytes (command_reply (ask office (start_at bytes at) (body_of table bytes at)) given)))
    → IsFoundOut table bytes at found posted given
found_out table bytes at found posted given name body holds tests named is gives memory reply = record {
  holds = holds;
  tests = tests;
  gives = subst (λ b. Gives found.route (name_asked (name_of found)) b given) is (subst (λ n. Gives found.route n body given) named gives);
  memory = memory;
  reply = reply;
}

pub no_command : BodiesGiveOne → (table : Table) (bytes : List ℕ) (at : Head) (found : Found) (posted : Posted) (given : Result Command CommandFault) (why : CommandFault)
    → given ≡ Err why → IsFoundOut table bytes at found posted given → IsNoCommand table bytes why
no_command bodies table bytes at found posted given why is out =
    let so = subst (IsFoundOut table bytes at found posted) is out in
    inr record {
      nothing = where_the_body_fails bodies table bytes at found posted why so.holds so.tests so.gives so.memory;
      reply = so.reply;
    }

pub a_command : (table : Table) (bytes : List ℕ) (at : Head) (found : Found) (posted : Posted) (given : Result Command CommandFault) (command : Command) (asked : Asked)
    → given ≡ Ok command → IsFoundOut table bytes at found posted given → asked ≡ asked_of (start_at bytes at) (body_of table bytes at) command
    → IsAskedFor table bytes asked
a_command table bytes at found posted given command asked is out same =
    let so = subst (IsFoundOut table bytes at found posted) is out in
    record {
      asks = by_a_command table bytes at found posted command asked so.holds so.tests so.gives same;
      reply = λ office. subst (λ a. IsReply office table bytes (reply_bytes (row_reply done_text (office.asked a)))) (sym same) (so.reply office);
    }
