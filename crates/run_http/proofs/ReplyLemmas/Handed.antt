-- Lemmas about the function `handle` of the crate `office_http`, which reads a request from memory
-- and writes the response to memory. The response is what the contract `Serves` requires for these
-- bytes.
use Rattle.std.proofs.Common.{◌≡◌, ℕ, List, [], Option, Some, Result, subst, ap, sym, ◌∙◌}
use Rattle.mb_wire.specs.declared.link.LastTake.{LastTake}
use Rattle.office_books.specs.Ledgers.{Ledger}
use Rattle.office_core.specs.declared.office.Office.{Office}
use Rattle.office_http.specs.Exchange.{Handles, Passage, passage}
use Rattle.office_http.specs.declared.fault.HandleFault.{HandleFault}
use Rattle.run_http.specs.Answer.{Serves}

pub handed : {B : Type 0} (ledger : B → Ledger) (at : ℕ) (old new : Office B) (request input left given reply kept : List ℕ) (last : Option LastTake)
    (ending : Result (Unit {0}) HandleFault) → input ≡ request → given ≡ [] → kept ≡ reply
    → Handles ledger at old new (passage (Some input) (Some left) (Some given) (Some reply) last) ending
    → Serves ledger at old new request ending kept
handed ledger at old new request input left given reply kept last ending is none kept_is handles = record {
  left = left;
  last = last;
  handles =
      let P : Passage → Type 0 = λ p. Handles ledger at old new p ending in
      subst P
      (ap (λ i. passage (Some i) (Some left) (Some given) (Some reply) last) is
      ∙ ap (λ g. passage (Some request) (Some left) (Some g) (Some reply) last) none
      ∙ ap (λ r. passage (Some request) (Some left) (Some []) (Some r) last) (sym kept_is))
      handles;
}
