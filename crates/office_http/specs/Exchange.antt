-- The effect of one call of `handle`, which reads one request and writes one response.
use Rattle.std.specs.Prelude.{◌≡◌, ◌≤◌, ◌⊎◌, ◌+◌, ◌-◌, ◌^◌, ℕ, min, Bool, true, false, List, [], Option, Some, None, Result, Ok, Err}
use Rattle.std.specs.Io.KnownBytes.{Consumes, IsAtEnd, Keeps}
use Rattle.mb_wire.specs.Links.{risen}
use Rattle.mb_wire.specs.declared.link.LastTake.{LastTake}
use Rattle.mb_wire.specs.declared.link.LinkFailed.{LinkFailed}
use Rattle.office_events.specs.declared.refusals.Refusal.{Refusal}
use Rattle.office_events.specs.declared.refusals.Refusal.TheVariants as refusal
use Rattle.office_books.specs.History.{History}
use Rattle.office_books.specs.Ledgers.{Ledger}
use Rattle.office_core.specs.Standing.{After}
use Rattle.office_core.specs.declared.office.Office.{Office}
use Rattle.office_http.specs.Messages.Head.Heads.{Looks, is_open}
use Rattle.office_http.specs.declared.messages.head.head.HeadState.{HeadState}
use Rattle.office_http.specs.Messages.Reading.HeadAndBody.{TakesWhatLacks}
use Rattle.office_http.specs.declared.messages.reading.inbox.TheConstants.{MOST_TAKES}
use Rattle.office_http.specs.declared.messages.reading.inbox.TakeFault.{TakeFault}
use Rattle.office_http.specs.declared.messages.reading.inbox.TakeFault.TheVariants as take
use Rattle.office_http.specs.Messages.Sending.Giving.{Gives}
use Rattle.office_http.specs.Messages.Routing.Routes.{routes}
use Rattle.office_http.specs.Messages.Whole.Whole.{IsUnfinished}
use Rattle.office_http.specs.Messages.Replies.{refused, reply_bytes}
use Rattle.office_http.specs.Serving.{Serves}
use Rattle.office_http.specs.declared.fault.HandleFault.{HandleFault}
use Rattle.office_http.specs.declared.fault.HandleFault.TheVariants.{Read, Write, Short, TurnsUsed, Cut}

-- The numeric code of the reason why a request was not served.
abbrev pub fault_number : HandleFault → ℕ
fault_number Read = 1
fault_number Write = 2
fault_number Short = 3
fault_number TurnsUsed = 4
fault_number Cut = 5

-- The reason why a request was not served, converted from the cause that ended the reading of the
-- request.
abbrev pub as_fault : TakeFault → HandleFault
as_fault take.Read = Read
as_fault take.Short = Short
as_fault take.TurnsUsed = TurnsUsed

-- True if a read from a client's connection or a write to the connection failed.
abbrev pub is_link_fault : Result (Unit {0}) HandleFault → Bool
is_link_fault (Ok x) = false
is_link_fault (Err Read) = true
is_link_fault (Err Write) = true
is_link_fault (Err Short) = false
is_link_fault (Err TurnsUsed) = false
is_link_fault (Err Cut) = false

-- The result of serving a request for which a response was written: `Write` if the write failed,
-- `Cut` if the response was cut off, otherwise `Ok`.
abbrev pub ended : (sent : Result (Unit {0}) LinkFailed) → (cut : Option Refusal)
    → Result (Unit {0}) HandleFault
ended (Err failed) cut = Err Write
ended (Ok x) None = Ok x
ended (Ok x) (Some why) = Err Cut

-- True if the result is possible after a response was written: success, a failed write, or a
-- response that was cut off.
abbrev pub IsEnd : Result (Unit {0}) HandleFault → Type 0
IsEnd (Ok x) = Unit {0}
IsEnd (Err Write) = Unit {0}
IsEnd (Err Cut) = Unit {0}
IsEnd (Err Read) = ⊥
IsEnd (Err Short) = ⊥
IsEnd (Err TurnsUsed) = ⊥

-- The state of a client's connection before and after a call: the bytes that the connection has yet
-- to deliver, and the bytes that were written to the client. `last` is the connection's last read.
pub record Passage : Type 0 where
  pub remaining : Option (List ℕ)
  pub later_remaining : Option (List ℕ)
  pub given : Option (List ℕ)
  pub later_given : Option (List ℕ)
  pub last : Option LastTake

-- The model of a client's connection before and after a call. Its five parts are the bytes to
-- deliver and the bytes written, each before and after the call, and the last read.
abbrev pub passage : (remaining later_remaining given later_given : Option (List ℕ))
    → Option LastTake
    → Passage
passage remaining later_remaining given later_given last = record {
  remaining = remaining;
  later_remaining = later_remaining;
  given = given;
  later_given = later_given;
  last = last;
}

-- True if nothing was read from the connection, or if the last read was necessary: before that
-- read, the bytes had neither a complete request nor an invalid head.
abbrev pub StopsReading : (read : List ℕ) → Option LastTake → Type 0
StopsReading read last = (read ≡ []) ⊎ TakesWhatLacks (IsUnfinished routes) [] read last

-- True if the received bytes have a complete request head or an invalid head.
pub record HasHead (read : List ℕ) : Type 0 where
  pub head_state : HeadState
  pub finds : Looks read head_state
  pub come : is_open head_state ≡ false

-- True if the program wrote the response to the request bytes `read` to the client's connection. If
-- a write failed, the client received only a prefix of the response.
pub record GivesReply {B : Type 0} (ledger : B → Ledger) (past : History) (at : ℕ)
    (old new : Office B)
    (given later_given : Option (List ℕ)) (read : List ℕ) (result : Result (Unit {0}) HandleFault)
    : Type 0 where
  pub cut : Option Refusal
  pub sent : Result (Unit {0}) LinkFailed
  pub ends : result ≡ ended sent cut
  pub put : List ℕ
  pub serves : Serves ledger past at read old new cut put
  pub gives : Gives sent given later_given put

-- True if the program wrote the response to the request bytes `read`, as the history `past`
-- determines it: the events that the program accepted before.
abbrev pub GivesReplyTo : {B : Type 0} → (read : List ℕ) → (B → Ledger) → (at : ℕ)
    → (old new : Office B) → (given later_given : Option (List ℕ)) → Result (Unit {0}) HandleFault
    → History → Type 0
GivesReplyTo read ledger at old new given later_given result past =
    GivesReply ledger past at old new given later_given read result

-- True if the received bytes have a complete or an invalid head, and the program wrote the response
-- to them. The program read nothing after a complete request or an invalid head.
pub record Replies {B : Type 0} (ledger : B → Ledger) (at : ℕ) (old new : Office B) (link : Passage)
    (read : List ℕ) (result : Result (Unit {0}) HandleFault) : Type 0 where
  pub head : HasHead read
  pub stops : StopsReading read link.last
  pub replies : After ledger old new
      (GivesReplyTo read ledger at old new link.given link.later_given result)

-- True if the received bytes have neither a complete request nor an invalid head, nothing was
-- written, and the program's state is unchanged.
pub record ReadsOn {B : Type 0} (old new : Office B) (link : Passage) (read : List ℕ) : Type 0 where
  pub goes_on : IsUnfinished routes read
  pub nothing : Keeps link.given link.later_given
  pub unchanged : new ≡ old

-- States the effect of a call of `handle` (which serves one request) that read the bytes `read`,
-- for each result of the call.
abbrev pub Does : {B : Type 0} → (B → Ledger) → (at : ℕ) → (old new : Office B) → Passage
    → (read : List ℕ) → Result (Unit {0}) HandleFault → Type 0
Does ledger at old new link read (Ok x) = Replies ledger at old new link read (Ok x)
Does ledger at old new link read (Err Write) = Replies ledger at old new link read (Err Write)
Does ledger at old new link read (Err Cut) = Replies ledger at old new link read (Err Cut)
Does ledger at old new link read (Err Read) = ReadsOn old new link read
Does ledger at old new link read (Err Short) =
    ReadsOn old new link read × IsAtEnd link.later_remaining
Does ledger at old new link read (Err TurnsUsed) = ReadsOn old new link read

-- True if the call of `handle`, which serves one request, read some bytes from the client. Their
-- effect must be as `Does` states for the result of the call.
pub record Handles {B : Type 0} (ledger : B → Ledger) (at : ℕ) (old new : Office B) (link : Passage)
    (result : Result (Unit {0}) HandleFault) : Type 0 where
  pub read : List ℕ
  pub takes : Consumes link.remaining link.later_remaining read
  pub does : Does ledger at old new link read result

-- True if the connection's count of failures rises by one exactly when a read or a write failed.
--
-- A call of `handle` (which serves one request) read at most 100,000 times from the client's
-- connection. It read exactly that many times if it ended with the fault TurnsUsed. The
-- connection's count of reads saturates at 2^64 - 1.
pub record CountsLink (result : Result (Unit {0}) HandleFault)
    (failed later_failed taken later_taken : ℕ)
    : Type 0 where
  pub failures : later_failed ≡ risen (is_link_fault result) failed
  pub turns : result ≡ Err TurnsUsed → (count : ℕ) → taken ≡ min count (2 ^ 64 - 1)
      → later_taken ≡ min (count + MOST_TAKES) (2 ^ 64 - 1)
  pub few : (count : ℕ) → taken ≡ min count (2 ^ 64 - 1)
      → later_taken ≤ min (count + MOST_TAKES) (2 ^ 64 - 1)

-- True if the program had no memory for the request, read a complete or an invalid head, and wrote
-- the response that memory ran out.
pub record RepliesBare (link : Passage) (read : List ℕ) (result : Result (Unit {0}) HandleFault)
    : Type 0 where
  pub sent : Result (Unit {0}) LinkFailed
  pub ends : result ≡ ended sent None
  pub head : HasHead read
  pub stops : StopsReading read link.last
  pub gives : Gives sent link.given link.later_given (reply_bytes (refused refusal.Memory))

-- True if the program had no memory for the request, read neither a complete request nor an invalid
-- head, and wrote nothing.
pub record ReadsOnBare (link : Passage) (read : List ℕ) : Type 0 where
  pub goes_on : IsUnfinished routes read
  pub nothing : Keeps link.given link.later_given

-- States the effect of serving a request for which memory ran out, for each result of the function
-- that serves the request.
abbrev pub DoesBare : Passage → (read : List ℕ) → Result (Unit {0}) HandleFault → Type 0
DoesBare link read (Ok x) = RepliesBare link read (Ok x)
DoesBare link read (Err Write) = RepliesBare link read (Err Write)
DoesBare link read (Err Cut) = ⊥
DoesBare link read (Err Read) = ReadsOnBare link read
DoesBare link read (Err Short) = ReadsOnBare link read × IsAtEnd link.later_remaining
DoesBare link read (Err TurnsUsed) = ReadsOnBare link read

-- True if the program had no memory for a request, and read some bytes from the client's
-- connection. If these had a complete or invalid head, it wrote the response that memory ran out,
-- otherwise nothing.
pub record HandlesBare (link : Passage) (result : Result (Unit {0}) HandleFault) : Type 0 where
  pub read : List ℕ
  pub takes : Consumes link.remaining link.later_remaining read
  pub does : DoesBare link read result
