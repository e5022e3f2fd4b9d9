-- The response to the bytes that a client has sent so far. The crate `office_http` computes the
-- response, as if a connection delivered exactly these bytes and then ended.
use Rattle.std.specs.Prelude.{◌⊎◌, ℕ, List, [], Option, Some, Result, Ok, Err}
use Rattle.office_books.specs.Ledgers.{Ledger}
use Rattle.office_core.specs.declared.office.Office.{Office}
use Rattle.office_http.specs.Exchange.{Handles, passage}
use Rattle.office_http.specs.declared.fault.HandleFault.{HandleFault}
use Rattle.office_http.specs.declared.fault.HandleFault.TheVariants as fault
use Rattle.mb_wire.specs.declared.link.LastTake.{LastTake}
use Rattle.run_http.specs.declared.answer.ClientResponse.{ClientResponse}
use Rattle.run_http.specs.declared.answer.ClientResponse.TheVariants.{Open, Replied, Failed}

-- States that the function `handle` of the crate `office_http` processed the client's bytes, ended
-- with the result `ending`, and wrote the response `reply`.
pub record Serves {B : Type 0} (ledger : B → Ledger) (at : ℕ) (old new : Office B)
    (request : List ℕ) (ending : Result (Unit {0}) HandleFault) (reply : List ℕ) : Type 0 where
  pub left : List ℕ
  pub last : Option LastTake
  pub handles : Handles ledger at old new
      (passage (Some request) (Some left) (Some []) (Some reply) last) ending

-- The result of looking for a request in a client's bytes. Open means that the bytes hold no
-- complete request. Replied has the response; if the store failed, the end of the response is
-- missing. Failed means that memory ran out, or the request took too many reads of the connection.
abbrev pub Asks : {B : Type 0} → (B → Ledger) → (at : ℕ) → (old new : Office B)
    → (request : List ℕ) → ClientResponse → Type 0
Asks ledger at old new request Open =
    (reply : List ℕ) × Serves ledger at old new request (Err fault.Short) reply
Asks ledger at old new request (Replied reply) =
    Serves ledger at old new request (Ok tt) reply.items
    ⊎ Serves ledger at old new request (Err fault.Cut) reply.items
Asks ledger at old new request Failed =
    (reply : List ℕ)
    × (Serves ledger at old new request (Err fault.Read) reply
    ⊎ Serves ledger at old new request (Err fault.Write) reply
    ⊎ Serves ledger at old new request (Err fault.TurnsUsed) reply)
