-- The contract of a query that passes rows to a sink (a caller's visitor) one by one.
use Rattle.std.specs.Prelude.{◌≡◌, ℕ, false, List, Result, IfErr, OnOk}
use Rattle.sqlite.specs.Store.{Ghosts}
use Rattle.sqlite.specs.Held.{Held, state}
use Rattle.sqlite.specs.State.{HasCleanDisk}
use Rattle.office_books.specs.Rows.{TakesAll, TakesFirst}
use Rattle.office_events.specs.declared.facts.Fact.{Fact}
use Rattle.store_tables.specs.declared.faults.RowFault.{RowFault}
use Rattle.office_store.specs.Holding.{HoldsFacts, OnlyLooks}
use Rattle.office_store.specs.Handing.{TookSome, IsStreamFault}

-- The contract of a streaming query, if reads of the database file return the written bytes. The
-- sink receives the result rows, which the records determine, in order: all rows if the query
-- returns `Ok`, and the first rows if it returns a fault. The query reports `Damaged` only if the
-- records have an invalid value. Every received row has the property `IsRow`, for any content of
-- the database.
pub record HandsOn {S K T : Type 0} (g : Ghosts S) (old new : Held S) (takes : K → T → K → Type 0)
    (before after : K)
    (result : Result (Unit {0}) RowFault) (IsRow : T → Type 0) (rows : List Fact → List T)
    (AreSound : List Fact → Type 0) : Type 0 where
  pub begun : (zone : List ℕ) (facts : List Fact) → HoldsFacts g zone old facts
      → HasCleanDisk (state g new)
      → TakesFirst takes before (rows facts) after
  pub whole : (zone : List ℕ) (facts : List Fact) → HoldsFacts g zone old facts
      → HasCleanDisk (state g new)
      → OnOk result (TakesAll takes before (rows facts) after)
  pub some : TookSome IsRow takes before after
  pub fault : (zone : List ℕ) (facts : List Fact) → HoldsFacts g zone old facts
      → HasCleanDisk (state g new)
      → IfErr result
      (IsStreamFault (state g old) (state g new) takes before after (AreSound facts))
  pub looks : (zone : List ℕ) → OnlyLooks g zone old new
  pub mode : old.in_transaction ≡ false → new.in_transaction ≡ false
