-- The effect of one call of `handle_named`, which tests the Host header of a request. If the host
-- is accepted, the call serves the request as the function `handle` does.
use Rattle.std.specs.Prelude.{◌≡◌, ◌⊎◌, ℕ, true, false, List, ◌++◌, None, Result}
use Rattle.std.specs.Io.KnownBytes.{Consumes}
use Rattle.mb_wire.specs.declared.link.LinkFailed.{LinkFailed}
use Rattle.office_books.specs.Ledgers.{Ledger}
use Rattle.office_core.specs.declared.office.Office.{Office}
use Rattle.office_http.specs.Messages.Head.Heads.{Looks}
use Rattle.office_http.specs.Messages.Hosts.{may_ask_in}
use Rattle.office_http.specs.declared.messages.head.head.HeadState.{HeadState}
use Rattle.office_http.specs.declared.messages.status.Status.TheVariants.{Misdirected}
use Rattle.office_http.specs.Messages.Sending.Giving.{Gives}
use Rattle.office_http.specs.Messages.Replies.{fault, reply_bytes}
use Rattle.office_http.specs.Exchange.{Does, DoesBare, Passage, StopsReading, ended}
use Rattle.office_http.specs.declared.fault.HandleFault.{HandleFault}

-- True if the bytes `front` are a prefix of `bytes`.
pub record IsFrontOf (front bytes : List ℕ) : Type 0 where
  pub rest : List ℕ
  pub is : bytes ≡ front ++ rest

-- True if some bytes pass the test of the Host header, and are a prefix or an extension of `read`,
-- the bytes read from the client. Bytes pass if their head has an accepted host, or if they have no
-- complete head.
pub record MayAsk (names : List (List ℕ)) (read : List ℕ) : Type 0 where
  pub tested : List ℕ
  pub same : IsFrontOf tested read ⊎ IsFrontOf read tested
  pub head_state : HeadState
  pub finds : Looks tested head_state
  pub may : may_ask_in names tested head_state ≡ true

-- True if the response is 421 (Misdirected Request). If a write failed, the client received only a
-- prefix of the response.
pub record RepliesMisdirected (link : Passage) (result : Result (Unit {0}) HandleFault) : Type 0
  where
    pub sent : Result (Unit {0}) LinkFailed
    pub ends : result ≡ ended sent None
    pub gives : Gives sent link.given link.later_given (reply_bytes (fault Misdirected))

-- True if `handle_named` (which tests the Host header) read until a head with a rejected Host
-- header was complete, wrote the response 421, and left the program's state unchanged.
pub record TurnsAway {B : Type 0} (names : List (List ℕ)) (old new : Office B) (link : Passage)
    (read : List ℕ) (result : Result (Unit {0}) HandleFault) : Type 0 where
  pub head_state : HeadState
  pub finds : Looks read head_state
  pub foreign : may_ask_in names read head_state ≡ false
  pub stops : StopsReading read link.last
  pub replies : RepliesMisdirected link result
  pub unchanged : new ≡ old

-- True if `handle_named` (which tests the Host header) read an accepted Host header or no complete
-- head, and had the effect of `handle`, which serves one request.
pub record LetsAsk {B : Type 0} (names : List (List ℕ)) (ledger : B → Ledger) (at : ℕ)
    (old new : Office B) (link : Passage) (read : List ℕ) (result : Result (Unit {0}) HandleFault)
    : Type 0 where
  pub may : MayAsk names read
  pub does : Does ledger at old new link read result

-- True if memory for the request ran out, and `handle_named` (which tests the Host header) executed
-- nothing. The function did not test the host, and wrote at most the response that memory ran out.
pub record HasNoRoom {B : Type 0} (old new : Office B) (link : Passage) (read : List ℕ)
    (result : Result (Unit {0}) HandleFault) : Type 0 where
  pub does : DoesBare link read result
  pub unchanged : new ≡ old

-- True if the call of `handle_named` (which tests the Host header) read bytes from the client's
-- connection. It then rejected the host, served the request, or had no memory for the request.
pub record HandlesNamed {B : Type 0} (names : List (List ℕ)) (ledger : B → Ledger) (at : ℕ)
    (old new : Office B) (link : Passage) (result : Result (Unit {0}) HandleFault) : Type 0 where
  pub read : List ℕ
  pub takes : Consumes link.remaining link.later_remaining read
  pub does : TurnsAway names old new link read result
      ⊎ LetsAsk names ledger at old new link read result
      ⊎ HasNoRoom old new link read result
