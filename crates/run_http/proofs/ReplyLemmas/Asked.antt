-- Lemmas on when received bytes are a complete HTTP request for the energy of all quarter hours of
-- a meter.
use Rattle.std.proofs.Common.{◌≡◌, ℕ, List, Option, Ok, refl, sym, subst, arith}
use Rattle.office_http.specs.Messages.Offices.{Office}
use Rattle.office_http.specs.Messages.Replies.{lines_reply, question_reply, reply_bytes}
use Rattle.office_http.specs.Messages.Requests.{name_asked}
use Rattle.office_http.specs.Messages.WholeResponses.{IsReply}
use Rattle.office_http.specs.Messages.Asking.{TestsHead}
use Rattle.office_http.specs.Messages.Head.Heads.{IsHeadAt, Looks}
use Rattle.office_http.specs.Messages.HeadTests.{start_at}
use Rattle.office_http.specs.Messages.Routing.Routes.{Table}
use Rattle.office_http.specs.Messages.Routing.Targets.{name_of}
use Rattle.office_http.specs.Messages.Whole.Whole.{Holds, IsWhole, TestsRequest, body_size}
use Rattle.office_http.specs.declared.messages.ask.Ask.TheVariants.{Question}
use Rattle.office_http.specs.declared.messages.head.head.Head.{Head}
use Rattle.office_http.specs.declared.messages.head.head.HeadState.{HeadState}
use Rattle.office_http.specs.declared.messages.head.head.HeadState.TheVariants.{Whole}
use Rattle.office_http.specs.declared.messages.routing.routes.Route.{Route}
use Rattle.office_http.specs.declared.messages.routing.routes.Route.TheVariants as route
use Rattle.office_http.specs.declared.messages.routing.targets.Found.{Found}
use Rattle.interval_core.specs.Lines.{intervals_text}
use Rattle.run_http.specs.OfficeRequests.{AsksAllRows}

-- If the head of a GET request is complete, then the request is complete, because it has no body.
whole : (table : Table) (bytes : List ℕ) (at : Head) (found : Found) → IsHeadAt bytes at → TestsHead table (start_at bytes at) (Ok (Question found))
    → IsWhole table bytes at
whole table bytes at found head tests = record {
  head = head;
  body = let none : body_size table (start_at bytes at) ≡ 0 = rw (tests.0, tests.1.0.route, tests.1.1) refl in omega (arith, none, head.1.len);
}

pub holds_question : (table : Table) (bytes : List ℕ) (head_state : HeadState) (at : Head) (found : Found) → head_state ≡ Whole at → Looks bytes head_state
    → TestsHead table (start_at bytes at) (Ok (Question found)) → Holds table bytes head_state
holds_question table bytes head_state at found is looks tests =
    subst (Holds table bytes) (sym is) (whole table bytes at found (subst (Looks bytes) is looks) tests)

pub tests_question : (table : Table) (bytes : List ℕ) (head_state : HeadState) (at : Head) (found : Found) → head_state ≡ Whole at
    → TestsHead table (start_at bytes at) (Ok (Question found)) → TestsRequest table bytes head_state (Ok (Question found))
tests_question table bytes head_state at found is tests = subst (λ h. TestsRequest table bytes h (Ok (Question found))) (sym is) tests

pub asks_all : (table : Table) (bytes : List ℕ) (found : Found) (meter : Option (List ℕ))
    → ((office : Office) → IsReply office table bytes (reply_bytes (question_reply office found.route (name_of found))))
    → found.route ≡ route.Intervals → meter ≡ name_asked (name_of found) → AsksAllRows table bytes meter
asks_all table bytes found meter replies is named = λ office.
    subst (λ n. IsReply office table bytes (reply_bytes (lines_reply intervals_text (office.intervals n)))) (sym named)
    (subst (λ (r : Route). IsReply office table bytes (reply_bytes (question_reply office r (name_of found)))) is (replies office))
