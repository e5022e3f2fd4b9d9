-- Defines which rows of a query a sink (a consumer of rows) received: all rows in order, or only
-- the first ones.
use Rattle.std.specs.Prelude.{◌≡◌, ℕ, List, [], ◌∷◌, take, Result, OnOk}
use Rattle.office_events.specs.declared.facts.Fact.{Fact}
use Rattle.office_books.specs.declared.faults.BooksFault.{BooksFault}
use Rattle.office_books.specs.Ledgers.{Ledger}

-- True if the sink received exactly the rows of the list one by one, in order.
abbrev pub TakesAll : {S T : Type 0} → (takes : S → T → S → Type 0) → (before : S) → List T
    → (after : S) → Type 0
TakesAll takes before [] after = after ≡ before
TakesAll {S} takes before (row ∷ rows) after =
    (next : S) × takes before row next × TakesAll takes next rows after

-- True if the sink (a consumer of rows) received the first rows of the list in order, possibly none
-- or all of them.
abbrev pub TakesFirst : {S T : Type 0} → (takes : S → T → S → Type 0) → (before : S) → List T
    → (after : S) → Type 0
TakesFirst takes before rows after = (n : ℕ) × TakesAll takes before (take n rows) after

-- The guarantees of a query that passes rows to a sink (a consumer of rows). If the store is clean
-- (every wrong result was detected), the sink receives the expected rows from the first on. It
-- receives all of them if the query returns `Ok`. The query changes the sink in no other way.
pub record HandsOn {S T : Type 0} (takes : S → T → S → Type 0) (old new : Ledger)
    (before after : S)
    (result : Result (Unit {0}) BooksFault) (rows : List Fact → List T) : Type 0 where
  pub begun : (known : List Fact) → old.holds known → new.is_clean
      → TakesFirst takes before (rows known) after
  pub whole : (known : List Fact) → old.holds known → new.is_clean
      → OnOk result (TakesAll takes before (rows known) after)
  pub some : (rows : List T) × TakesAll takes before rows after
