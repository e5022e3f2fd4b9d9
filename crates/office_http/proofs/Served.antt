-- Lemmas: the responses to queries and commands satisfy `Serves`, the contract of serving a
-- request.
use Rattle.std.proofs.Common.{◌≡◌, ◌∙◌, ℕ, Bool, true, false, List, Option, Some, None, Result, Ok, Err, inl, inr, refl, sym, ap, subst}
use Rattle.std.specs.Prelude.{◌||◌}
use Rattle.office_events.specs.declared.answers.Answer.{Answer}
use Rattle.office_events.specs.declared.events.Asked.{Asked}
use Rattle.office_events.specs.declared.events.Event.TheVariants as event
use Rattle.office_events.specs.declared.refusals.Refusal.{Refusal}
use Rattle.office_events.specs.declared.refusals.Refusal.TheVariants as refusal
use Rattle.office_books.specs.History.{History}
use Rattle.office_books.specs.Refusals.{IsAccepted, with_answer}
use Rattle.office_books.specs.Ledgers.{Ledger, KeepsFacts}
use Rattle.office_core.specs.Asking.{IsRowFound, OnlyAsks, or_not_found}
use Rattle.office_core.specs.Standing.{Stands, books_in, is_stopped}
use Rattle.office_core.specs.Taking.{Ends, IsAnswer, LeavesEvent, failures_of}
use Rattle.office_core.specs.declared.office.Office.{Office as Run}
use Rattle.office_core.proofs.Taken.{outside_more}
use Rattle.office_http.specs.declared.messages.commands.fault.CommandFault.{CommandFault}
use Rattle.office_http.specs.Messages.Routing.Routes.{routes}
use Rattle.office_http.specs.Messages.Kinds.{done_text}
use Rattle.office_http.specs.Messages.Offices.{Office}
use Rattle.office_http.specs.Messages.Replies.{fault_said, refused, reply_bytes, row_reply}
use Rattle.office_http.specs.Messages.WholeResponses.{IsReply}
use Rattle.office_http.specs.Wants.Wanting.{AsksNothing, IsAskedFor, IsNoCommand}
use Rattle.office_http.specs.Answering.{AnswersAt, reported}
use Rattle.office_http.specs.Serving.{Lasts, Serves}

-- If neither a query nor a command was executed for a request, then the store has the same records
-- as before the request.
keeps_same : {B : Type 0} (ledger : B → Ledger) (old new : Run B) → new ≡ old → KeepsFacts (ledger (books_in old)) (ledger (books_in new))
keeps_same {B} ledger old new same =
    subst (λ (o : Run B). KeepsFacts (ledger (books_in old)) (ledger (books_in o))) (sym same) (record { facts = λ known h. h; left = λ left may. may })

-- True if a query did not change the program's state, which is still the state after the events
-- accepted before the query (`past`). Also requires that a crash after the query leaves the store
-- with the same records as before the query.
pub record StandsStill {B : Type 0} (ledger : B → Ledger) (past : History) (old new : Run B) : Type 0 where
  pub stands : Stands ledger past new
  pub keeps : KeepsFacts (ledger (books_in old)) (ledger (books_in new))

pub still : {B T : Type 0} (ledger : B → Ledger) (past : History) (old new : Run B) (answer : Result T Refusal) → OnlyAsks ledger old new answer
    → Stands ledger past old → StandsStill ledger past old new
still ledger past old new answer asks stands = record { stands = asks.stands past stands; keeps = asks.keeps }

-- If no query and no command was executed, and the response does not depend on the program's state,
-- then `Serves` holds, the contract of serving a request.
pub reported_off : {B : Type 0} (ledger : B → Ledger) (past : History) (at : ℕ) (read : List ℕ) (old new : Run B) (text : List ℕ)
    → new ≡ old → AsksNothing routes read → ((office : Office) → IsReply office routes read text) → Stands ledger past old
    → Serves ledger past at read old new None text
reported_off ledger past at read old new text same nothing reply stands = record {
  reply = text;
  is_put = refl;
  later = past;
  served = inl (record { replies = λ office answers. reply office; asked = None; asks = nothing; accepts = refl }, ap (failures_of ledger) same);
  stands = subst (Stands ledger past) (sym same) stands;
  leaves = inr (refl, keeps_same ledger old new same);
}

not_stopped : refusal.Memory ≡ refusal.Stopped → ⊥
not_stopped is = cc is

-- If memory ran out before anything was executed, then the response that reports the lack of memory
-- satisfies `Serves`, the contract of serving a request.
pub no_memory : {B : Type 0} (ledger : B → Ledger) (past : History) (at : ℕ) (read : List ℕ) (old new : Run B)
    → new ≡ old → Stands ledger past old → Serves ledger past at read old new None (reply_bytes (refused refusal.Memory))
no_memory ledger past at read old new same stands = record {
  reply = reply_bytes (refused refusal.Memory);
  is_put = refl;
  later = past;
  served = inr record { why = refusal.Memory; stopped = λ is. absurd (not_stopped is); outside = inr (tt, ap (failures_of ledger) same); reports = refl; unchanged = refl };
  stands = subst (Stands ledger past) (sym same) stands;
  leaves = inr (refl, keeps_same ledger old new same);
}

-- If the program answered or refused a query for one object (such as a meter), the response with
-- this answer satisfies `Serves`, the contract of serving a request.
pub row_reported : {B T : Type 0} (ledger : B → Ledger) (past : History) (at : ℕ) (read : List ℕ) (old new : Run B) (text : T → List ℕ)
    (found : Option T) (answer : Result T Refusal) → IsRowFound found (failures_of ledger old) (failures_of ledger new) answer
    → AsksNothing routes read → ((office : Office) → AnswersAt (ledger (books_in old)).zone past at office → IsReply office routes read (reply_bytes (row_reply text (or_not_found found))))
    → StandsStill ledger past old new → (answer ≡ Err refusal.Stopped → is_stopped old ≡ true)
    → Serves ledger past at read old new None (reply_bytes (row_reply text answer))
row_reported ledger past at read old new text found answer (inl is) nothing reply stands stopped = record {
  reply = reply_bytes (row_reply text answer);
  is_put = refl;
  later = past;
  served = inl (
    record {
      replies = λ office answers. subst (λ a. IsReply office routes read (reply_bytes (row_reply text a))) (sym is.0) (reply office answers);
      asked = None;
      asks = nothing;
      accepts = refl;
    },
    is.1,
  );
  stands = stands.stands;
  leaves = inr (refl, stands.keeps);
}
row_reported ledger past at read old new text found (Ok x) (inr fails) nothing reply stands stopped = absurd fails
row_reported ledger past at read old new text found (Err why) (inr fails) nothing reply stands stopped = record {
  reply = reply_bytes (refused why);
  is_put = refl;
  later = past;
  served = inr record { why = why; stopped = λ is. stopped (ap Err is); outside = outside_more ⊥ (Unit {0}) _ _ why (λ none. tt) fails; reports = refl; unchanged = refl };
  stands = stands.stands;
  leaves = inr (refl, stands.keeps);
}

-- If the program answered a command, then the response with that answer satisfies `Serves`, the
-- contract of serving a request.
pub command_reported : {B : Type 0} (ledger : B → Ledger) (past : History) (at : ℕ) (read : List ℕ) (old new : Run B) (asked : Asked)
    (answer : Result Answer Refusal) → IsAskedFor routes read asked
    → IsAnswer past at (event.Asked asked) (failures_of ledger old) (failures_of ledger new) answer
    → Stands ledger (with_answer past at (event.Asked asked) answer) new
    → LeavesEvent ledger at (event.Asked asked) old new answer past → (answer ≡ Err refusal.Stopped → is_stopped old ≡ true)
    → Serves ledger past at read old new None (reply_bytes (row_reply done_text (reported answer)))
command_reported ledger past at read old new asked answer wanted (inl is) stands leaves stopped = record {
  reply = reply_bytes (row_reply done_text (reported answer));
  is_put = refl;
  later = with_answer past at (event.Asked asked) answer;
  served = inl (
    record {
      replies = λ office answers.
          subst (λ a. IsReply office routes read (reply_bytes (row_reply done_text a))) (answers.asked asked ∙ ap reported (sym is.0)) (wanted.reply office);
      asked = Some asked;
      asks = wanted.asks;
      accepts = ap (with_answer past at (event.Asked asked)) is.0;
    },
    is.1,
  );
  stands = stands;
  leaves = inl (record { asked = asked; asks = wanted.asks; answer = answer; accepts = refl; leaves = leaves });
}
command_reported ledger past at read old new asked (Ok answer) wanted (inr fails) stands leaves stopped = absurd fails
command_reported ledger past at read old new asked (Err why) wanted (inr fails) stands leaves stopped = record {
  reply = reply_bytes (refused why);
  is_put = refl;
  later = past;
  served = inr record { why = why; stopped = λ is. stopped (ap Err is); outside = outside_more (IsAccepted past at (event.Asked asked)) (Unit {0}) _ _ why (λ accepted. tt) fails; reports = refl; unchanged = refl };
  stands = stands;
  leaves = inl (record { asked = asked; asks = wanted.asks; answer = Err why; accepts = refl; leaves = leaves });
}

or_none : (b : Bool) → (b || false) ≡ b
or_none true = refl
or_none false = refl

-- After a command was executed, the program refuses all events exactly if it refused all events
-- before the command. The program's time zone is unchanged (`Lasts`).
pub lasts_fed : {B : Type 0} (ledger : B → Ledger) (old new : Run B) (asked : Asked) (answer : Result Answer Refusal)
    → Ends ledger old new (event.Asked asked) answer → Lasts ledger old new
lasts_fed ledger old new asked answer ends = record { stopped = ends.stops ∙ or_none (is_stopped old); clean = ends.clean; zone = ends.zone }

-- After a query was answered, the program refuses all events exactly if it refused all events
-- before the query. The program's time zone is unchanged (`Lasts`).
pub lasts_asked : {B T : Type 0} (ledger : B → Ledger) (old new : Run B) (answer : Result T Refusal) → OnlyAsks ledger old new answer → Lasts ledger old new
lasts_asked ledger old new answer asks = record { stopped = asks.stays; clean = asks.clean; zone = asks.zone }

pub lasts_same : {B : Type 0} (ledger : B → Ledger) (office : Run B) → Lasts ledger office office
lasts_same ledger office = record { stopped = refl; clean = λ x. x; zone = refl }

-- If a request's body contains no valid command, then the response that reports the fault satisfies
-- `Serves`, the contract of serving a request.
pub no_command_reported : {B : Type 0} (ledger : B → Ledger) (past : History) (at : ℕ) (read : List ℕ) (office : Run B) (why : CommandFault)
    → IsNoCommand routes read why → Stands ledger past office → Serves ledger past at read office office None (reply_bytes (fault_said why))
no_command_reported ledger past at read office why (inl memory) stands =
    subst (λ w. Serves ledger past at read office office None (reply_bytes (fault_said w))) (sym memory) (no_memory ledger past at read office office refl stands)
no_command_reported ledger past at read office why (inr off) stands = reported_off ledger past at read office office _ refl off.nothing off.reply stands
