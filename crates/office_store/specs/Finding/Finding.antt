-- Defines the contract of a look-up, a query for stored records: the answer of the look-up follows
-- from the records in the connection's database.
use Rattle.std.specs.Prelude.{◌≡◌, ℕ, List, map, Result, IfOk, IfErr}
use Rattle.std.specs.List.{AllByRecursion}
use Rattle.sqlite.specs.Order.{Row}
use Rattle.sqlite.specs.Store.{Ghosts}
use Rattle.sqlite.specs.Held.{Held, state}
use Rattle.sqlite.specs.State.{HasCleanDisk}
use Rattle.office_events.specs.declared.facts.Fact.{Fact}
use Rattle.office_books.specs.Lawful.{AreLawful}
use Rattle.store_tables.specs.declared.faults.RowFault.{RowFault}
use Rattle.store_tables.specs.Failing.{IsFault, IsRowFault}
use Rattle.office_store.specs.Holding.{HoldsFacts, OnlyLooks}
use Rattle.office_store.specs.Finding.Each.{AreEach}

-- The contract of a look-up (a query for stored records), if reads of the database file return the
-- written bytes. An `Ok` answer follows from the records. A look-up reports `Damaged` only if the
-- records violate the condition `AreSound`, and any other error only for a cause that
-- `IsStoreError` lists. A look-up changes nothing.
pub record Finds {S A : Type 0} (g : Ghosts S) (old new : Held S) (result : Result A RowFault)
    (Says : List Fact → A → Type 0) (AreSound : List Fact → Type 0) : Type 0 where
  pub answer : (zone : List ℕ) (facts : List Fact) → HoldsFacts g zone old facts
      → HasCleanDisk (state g new) → IfOk result (Says facts)
  pub fault : (zone : List ℕ) (facts : List Fact) → HoldsFacts g zone old facts
      → HasCleanDisk (state g new)
      → IfErr result (IsFault (state g old) (state g new) (AreSound facts))
  pub looks : (zone : List ℕ) → OnlyLooks g zone old new

-- True if the records are lawful (the rules accepted each record after the earlier ones), and the
-- statement `Says` relates the records to an answer.
abbrev pub OfLawful : {A : Type 0} → (List Fact → A → Type 0) → List Fact → A → Type 0
OfLawful Says facts a = AreLawful facts × Says facts a

-- True if a reader converts result rows to the values that these rows encode, in order. The reader
-- may fail in two cases: `Damaged` if a value is out of its range, or an error if memory runs out.
pub record ReadsAll {A T X : Type 0} (rows : List Row) (shown : X → Row) (IsSeen : X → A → Type 0)
    (IsSound : X → Type 0) (items : T → List A) (result : Result T RowFault) : Type 0 where
  pub read : (xs : List X) → rows ≡ map shown xs → IfOk result (λ v. AreEach IsSeen xs (items v))
  pub fault : (xs : List X) → rows ≡ map shown xs
      → IfErr result (IsRowFault (AllByRecursion IsSound xs))
