-- Defines the effect of HTTP clients on the state of `sunreg run` and on its store.
use Rattle.std.specs.Prelude.{◌≡◌, ℕ, List, [], ◌∷◌}
use Rattle.office_books.specs.Ledgers.{Ledger}
use Rattle.office_core.specs.Standing.{After, Stands, books_in}
use Rattle.office_core.specs.declared.office.Office.{Office}
use Rattle.office_http.specs.Connections.Connections.{Connection, history_with}
use Rattle.office_books.specs.History.{History}

-- States that the requests of all connections in the list arrived at the time `at`.
abbrev pub AreAt : {names : List (List ℕ)} → (at : ℕ) → List (Connection names) → Type 0
AreAt at [] = Unit {0}
AreAt at (one ∷ earlier) = (one.at ≡ at) × AreAt at earlier

-- States that the program's state follows from the events accepted before (`past`) and the requests
-- of some HTTP connections at the time `at`. The Host header of each request was accepted.
pub record StandsAfterClients {B : Type 0} (names : List (List ℕ)) (at : ℕ) (ledger : B → Ledger)
    (past : History) (office : Office B) : Type 0 where
  pub connections : List (Connection names)
  pub each : AreAt at connections
  pub stands : Stands ledger (history_with past connections) office

-- States that, whatever bytes clients send, the program has only executed complete requests, all at
-- the time `at`. The time zone is unchanged. A store that has returned wrong data stays marked as
-- not clean (`is_clean`).
pub record ServesClients {B : Type 0} (names : List (List ℕ)) (at : ℕ) (ledger : B → Ledger)
    (old new : Office B) : Type 0 where
  pub stands : After ledger old new (λ past. StandsAfterClients names at ledger past new)
  pub clean : (ledger (books_in new)).is_clean → (ledger (books_in old)).is_clean
  pub zone : (ledger (books_in new)).zone ≡ (ledger (books_in old)).zone

-- States that the program only queried its store, so its state results from the same history of
-- accepted events as before. The time zone is unchanged. A store that has returned wrong data stays
-- marked as not clean (`is_clean`).
pub record OnlyQueries {B : Type 0} (ledger : B → Ledger) (old new : Office B) : Type 0 where
  pub stands : (past : History) → Stands ledger past old → Stands ledger past new
  pub clean : (ledger (books_in new)).is_clean → (ledger (books_in old)).is_clean
  pub zone : (ledger (books_in new)).zone ≡ (ledger (books_in old)).zone
