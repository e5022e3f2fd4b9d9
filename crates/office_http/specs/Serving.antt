-- The response to a request, and the program's history of accepted events after the request.
use Rattle.std.specs.Prelude.{◌≡◌, ◌⊎◌, ◌++◌, ℕ, Bool, true, List, Option, Some, None, Result}
use Rattle.interval_core.specs.declared.zone.Zone.{Zone}
use Rattle.office_events.specs.declared.answers.Answer.{Answer}
use Rattle.office_events.specs.declared.events.Asked.{Asked}
use Rattle.office_events.specs.declared.events.Event.TheVariants as event
use Rattle.office_events.specs.declared.refusals.Refusal.{Refusal}
use Rattle.office_events.specs.declared.refusals.Refusal.TheVariants as refusal
use Rattle.office_books.specs.History.{History}
use Rattle.office_books.specs.Refusals.{decision_of, with_answer}
use Rattle.office_books.specs.declared.failures.Failures.{Failures}
use Rattle.office_books.specs.Ledgers.{Ledger, KeepsFacts}
use Rattle.office_core.specs.Failing.{IsOutside}
use Rattle.office_core.specs.Leaving.{Leaves, LeftByEvent}
use Rattle.office_core.specs.Standing.{After, Stands, books_in, is_stopped}
use Rattle.office_core.specs.Taking.{failures_of}
use Rattle.office_core.specs.declared.office.Office.{Office as Run}
use Rattle.interval_core.specs.Lines.{days_text, end_line, intervals_text}
use Rattle.office_http.specs.Messages.Sending.Sending as sending
use Rattle.office_http.specs.Messages.Sending.Sending.{OnlyGives, Outgoing}
use Rattle.office_http.specs.Messages.Routing.Routes.{routes}
use Rattle.office_http.specs.Messages.Offices.{Office}
use Rattle.office_http.specs.Messages.Replies.{lines_reply, poll_reply, refused, reply_bytes}
use Rattle.office_http.specs.Messages.WholeResponses.{IsReply}
use Rattle.office_http.specs.Wants.Wanting.{AsksNothing, AsksOffice}
use Rattle.office_http.specs.Answering.{AnswersAt}

-- States that the received bytes have a request for the given command. If no command is given
-- (None), states that the bytes have no request for any command.
abbrev pub Asks : (read : List ℕ) → Option Asked → Type 0
Asks read None = AsksNothing routes read
Asks read (Some asked) = AsksOffice routes read asked

-- The history of accepted events after the given command. A command that is accepted and is no
-- retry adds its event. Without a command the history is unchanged.
abbrev pub with_asked : History → (at : ℕ) → Option Asked → History
with_asked past at None = past
with_asked past at (Some asked) =
    with_answer past at (event.Asked asked) (decision_of past at (event.Asked asked))

-- True if the response has the program's answer, which follows from the events accepted before the
-- request (`past`). `later` is `past` with the command in the received bytes added, if the command
-- is accepted and is no retry.
pub record IsAnswered (zone : Zone) (past : History) (at : ℕ) (read reply : List ℕ)
    (later : History)
    : Type 0 where
  pub replies : (office : Office) → AnswersAt zone past at office → IsReply office routes read reply
  pub asked : Option Asked
  pub asks : Asks read asked
  pub accepts : later ≡ with_asked past at asked

-- True if the response reports that the store or memory failed, or that the program refuses all
-- events since an earlier failure. No event is accepted.
--
-- The response reports an earlier failure only if the program already refused all events before the
-- request.
pub record IsUnavailable (past : History) (had_stopped : Bool) (before after : Failures)
    (reply : List ℕ) (later : History) : Type 0 where
  pub why : Refusal
  pub stopped : why ≡ refusal.Stopped → had_stopped ≡ true
  pub outside : IsOutside (Unit {0}) before after why
  pub reports : reply ≡ reply_bytes (refused why)
  pub unchanged : later ≡ past

-- True if the specification allows the response for the request bytes `read`, given the counts of
-- store failures before and after the call. If the store fails while rows are written, then the
-- response is cut off.
abbrev pub IsServed : Zone → (past : History) → (at : ℕ) → (read : List ℕ) → (had_stopped : Bool)
    → (before after : Failures) → (cut : Option Refusal) → (reply : List ℕ) → (later : History)
    → Type 0
IsServed zone past at read had_stopped before after None reply later =
    (IsAnswered zone past at read reply later × (after ≡ before))
    ⊎ IsUnavailable past had_stopped before after reply later
IsServed zone past at read had_stopped before after (Some why) reply later =
    IsAnswered zone past at read reply later × IsOutside ⊥ before after why

-- True if the written bytes `put` lack the last line (with the number of rows) of the response
-- `reply`. The bytes may also lack rows.
pub record IsCutOff (put reply : List ℕ) : Type 0 where
  pub rows : List ℕ
  pub count : ℕ
  pub lacks : reply ≡ put ++ (rows ++ end_line count)

-- True if the written bytes `put` are the complete response `reply`, or a prefix of it if the
-- response was cut off.
abbrev pub IsPut : (cut : Option Refusal) → (put reply : List ℕ) → Type 0
IsPut None put reply = reply ≡ put
IsPut (Some why) put reply = IsCutOff put reply

-- True if the program executed the command that the received bytes contain. A crash then leaves the
-- store with all records from before the request, and with the records of this command completely
-- or not at all.
pub record IsFed (old new : Ledger) (past : History) (at : ℕ) (read : List ℕ) (later : History) :
    Type 0 where
  pub asked : Asked
  pub asks : AsksOffice routes read asked
  pub answer : Result Answer Refusal
  pub accepts : later ≡ with_answer past at (event.Asked asked) answer
  pub leaves : Leaves old new (LeftByEvent past at (event.Asked asked) answer)

-- True if the program executed the command that the received bytes contain, or executed nothing. In
-- both cases, the store has all records from before the request after a crash.
abbrev pub LeavesServed : (old new : Ledger) → (past : History) → (at : ℕ) → (read : List ℕ)
    → (later : History) → Type 0
LeavesServed old new past at read later =
    IsFed old new past at read later ⊎ ((later ≡ past) × KeepsFacts old new)

-- True if the program wrote the response to the received bytes, or a part of the response. The
-- program's state is the state after `later`, the events accepted before and by the request.
--
-- After a crash, the store has all records from before the request, and those of the request's
-- command completely or not at all.
pub record Serves {B : Type 0} (ledger : B → Ledger) (past : History) (at : ℕ) (read : List ℕ)
    (old new : Run B) (cut : Option Refusal) (put : List ℕ) : Type 0 where
  pub reply : List ℕ
  pub is_put : IsPut cut put reply
  pub later : History
  pub served : IsServed (ledger (books_in old)).zone past at read (is_stopped old)
      (failures_of ledger old) (failures_of ledger new) cut reply later
  pub stands : Stands ledger later new
  pub leaves : LeavesServed (ledger (books_in old)) (ledger (books_in new)) past at read later

-- True if the program served the request in the received bytes, and wrote the response through a
-- writer. `from` and `to` are the states of the writer before and after the response.
pub record Puts {B : Type 0} (ledger : B → Ledger) (past : History) (at : ℕ) (read : List ℕ)
    (old new : Run B) (from to : Outgoing) (cut : Option Refusal) : Type 0 where
  pub put : List ℕ
  pub serves : Serves ledger past at read old new cut put
  pub puts : sending.Puts from to put

-- True if serving a request changes neither the store's time zone nor whether the program refuses
-- all events. Also requires that a store that is clean afterwards (no wrong data was used) was
-- clean before.
pub record Lasts {B : Type 0} (ledger : B → Ledger) (old new : Run B) : Type 0 where
  pub stopped : is_stopped new ≡ is_stopped old
  pub clean : (ledger (books_in new)).is_clean → (ledger (books_in old)).is_clean
  pub zone : (ledger (books_in new)).zone ≡ (ledger (books_in old)).zone

-- True if the program served the request in the received bytes, and wrote only the response to the
-- client's connection.
pub record PutsReply {B : Type 0} (ledger : B → Ledger) (at : ℕ) (read : List ℕ) (old new : Run B)
    (from to : Outgoing) (cut : Option Refusal) : Type 0 where
  pub serves : After ledger old new (λ past. Puts ledger past at read old new from to cut)
  pub gives : OnlyGives from to
  pub lasts : Lasts ledger old new

-- True if the received bytes are a query for a poll, and the response to this query is the
-- program's answer. `number` is the poll's number, or None if the query has no valid number.
pub record IsPollAsked (read : List ℕ) (number : Option ℕ) : Type 0 where
  pub nothing : AsksNothing routes read
  pub replies : (office : Office)
      → IsReply office routes read (reply_bytes (poll_reply office number))

-- True if the received bytes are a query for a meter's energy by quarter hours, and the response to
-- this query is the program's answer. `meter` is the meter's name, or None if the name is invalid.
pub record AreIntervalsAsked (read : List ℕ) (meter : Option (List ℕ)) : Type 0 where
  pub nothing : AsksNothing routes read
  pub replies : (office : Office)
      → IsReply office routes read
      (reply_bytes (lines_reply intervals_text (office.intervals meter)))

-- True if the received bytes are a query for an accounting register's (a named counter's) daily
-- energy, and the response to this query is the program's answer.
pub record AreDaysAsked (read : List ℕ) (register : Option (List ℕ)) : Type 0 where
  pub nothing : AsksNothing routes read
  pub replies : (office : Office)
      → IsReply office routes read (reply_bytes (lines_reply days_text (office.days register)))
