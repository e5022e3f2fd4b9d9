-- States what several queries in sequence leave unchanged in the program.
use Rattle.std.specs.Prelude.{◌≡◌, Result, Ok, Err}
use Rattle.office_events.specs.declared.refusals.Refusal.{Refusal}
use Rattle.office_books.specs.History.{History}
use Rattle.office_books.specs.Ledgers.{KeepsFacts, Ledger}
use Rattle.office_core.specs.Asking.{OnlyAsks}
use Rattle.office_core.specs.Standing.{Stands, books_in, is_stopped, notes_in, outgoing_in}
use Rattle.office_core.specs.Taking.{failures_of}
use Rattle.office_core.specs.declared.office.Office.{Office}

-- True if the queries left the program unchanged: its state, its notifications and bytes to send,
-- the store's failure counter, and whether it refuses all events.
pub record Keeps {B : Type 0} (ledger : B → Ledger) (old new : Office B) : Type 0 where
  pub stands : (past : History) → Stands ledger past old → Stands ledger past new
  pub keeps : KeepsFacts (ledger (books_in old)) (ledger (books_in new))
  pub notes : notes_in new ≡ notes_in old
  pub outgoing : outgoing_in new ≡ outgoing_in old
  pub stays : is_stopped new ≡ is_stopped old
  pub failures : failures_of ledger new ≡ failures_of ledger old
  pub clean : (ledger (books_in new)).is_clean → (ledger (books_in old)).is_clean
  pub zone : (ledger (books_in new)).zone ≡ (ledger (books_in old)).zone

-- The effect of several queries on the program. If the program refuses none of them, its state is
-- unchanged. If it refuses one, the effect is that of the refused query.
abbrev pub KeepsUnlessRefused : {B : Type 0} → (B → Ledger) → (old new : Office B)
    → Result (Unit {0}) Refusal → Type 0
KeepsUnlessRefused ledger old new (Ok done) = Keeps ledger old new
KeepsUnlessRefused ledger old new (Err why) = OnlyAsks {T = Unit {0}} ledger old new (Err why)
