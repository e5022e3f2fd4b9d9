-- The result of a command that opens an office (the engine that records meters' energy) over a
-- store, uses the office, and returns the store.
use Rattle.std.specs.Prelude.{◌≡◌, ℕ, List, ◌∷◌, Option}
use Rattle.office_books.specs.History.{History, Opened}
use Rattle.office_books.specs.Ledgers.{Ledger}
use Rattle.office_core.specs.Leaving.{BooksStand}
use Rattle.office_core.specs.Reopening.{asking_moment}
use Rattle.office_core.specs.Standing.{books_in}
use Rattle.office_core.specs.declared.office.Office.{Office}
use Rattle.office_program.specs.Texts.AskedOffice.{OpensToAsk}
use Rattle.office_program.specs.Texts.OpenedOffice.{Opens}

-- True if the event engine was opened, a command of `sunreg` acted on the opened engine as the
-- given relation `Does` describes, and the command returned the store.
pub record WithOffice {B : Type 0} (ledger : B → Ledger) (past : History)
    (moments : Option (List ℕ)) (back : B)
    (Does : (following : History) → (then : Option (List ℕ)) → (opened left : Office B) → Type 0)
    : Type 0 where
  pub then : Option (List ℕ)
  pub opened : Office B
  pub opens : Opens ledger past moments then opened
  pub left : Office B
  pub does : Does (Opened opens.at ∷ past) then opened left
  pub handed : back ≡ books_in left

-- True if the event engine was opened for queries, a command of `sunreg` queried the engine as the
-- given relation `Does` describes, and the command returned the store. The clock was read once.
pub record WithAsked {B : Type 0} (ledger : B → Ledger) (past : History)
    (moments later : Option (List ℕ)) (back : B)
    (Does : (following : History) → (opened left : Office B) → Type 0) : Type 0 where
  pub opened : Office B
  pub opens : OpensToAsk ledger past moments later opened
  pub left : Office B
  pub does : Does (Opened (asking_moment past opens.reported) ∷ past) opened left
  pub handed : back ≡ books_in left

-- States that the given property `Holds` is true for each list of accepted events that the store
-- may record when a command of `sunreg` starts. States nothing if the command used a wrong result
-- of the store.
abbrev pub OverStanding : {B : Type 0} → (B → Ledger) → (books back : B)
    → (Holds : (past : History) → Type 0) → Type 0
OverStanding ledger books back Holds =
    (past : History) → BooksStand (ledger books) past → (ledger back).is_clean → Holds past
