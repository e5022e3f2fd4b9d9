-- Contracts of database queries that assume nothing about the contents of the tables.
use Rattle.std.specs.Prelude.{◌≡◌, ℕ, map, false, Result, IfOk, IfErr, IsTrue}
use Rattle.std.specs.List.Sorted.{IsPermutation}
use Rattle.sqlite.specs.Order.{Row}
use Rattle.sqlite.specs.Tree.{Trees}
use Rattle.sqlite.specs.Store.{Ghosts}
use Rattle.sqlite.specs.Held.{Held, state}
use Rattle.sqlite.specs.State.{HasCleanDisk, KeepsCommit}
use Rattle.store_tables.specs.declared.faults.RowFault.{RowFault}
use Rattle.sqlite.specs.Effect.{Database}
use Rattle.store_tables.specs.Schema.{books_schema}
use Rattle.store_tables.specs.Content.{Content, AreApart, AreTables, HasTree, is_numbered, reported}
use Rattle.store_tables.specs.Failing.{IsFault, StateAfterCall}

-- True if the tables of a database have the rows of `content`, and no rowid occurs twice in a
-- table. The definition does not depend on the schema of the database.
pub record AreRows (db : Database) (content : Content) : Type 0 where
  pub rows : (t : ℕ) → HasTree books_schema.tables t
      → IsPermutation (map (reported (is_numbered t)) (db.trees t)) (content t)
  pub apart : (t : ℕ) → HasTree books_schema.tables t → AreApart (db.trees t)

-- The result row of a query that returns all columns of a table row unchanged.
abbrev pub itself : Row → Row
itself row = row

module _ {S : Type 0} (g : Ghosts S) where
  -- States that, if the connection is open and reads of the disk return what was written, then the
  -- committed tables have the content `content`.
  unfoldable pub HoldsTables : Held S → Content → Type 0
  HoldsTables h content =
      HasCleanDisk (state g h) → IsTrue (state g h).is_open
      → AreTables (state g h).committed content

  -- States that, if the connection is open and reads of the disk return what was written, then the
  -- committed tables have the rows of `content`. Nothing is assumed about the schema.
  unfoldable pub HoldsRows : Held S → Content → Type 0
  HoldsRows h content =
      HasCleanDisk (state g h) → IsTrue (state g h).is_open
      → AreRows (state g h).committed content

  -- The contract of a query outside a transaction. The query commits nothing, and a crash after the
  -- query leaves the same data as a crash before it.
  pub record OnlyLooks (old new : Held S) : Type 0 where
    pub clean : HasCleanDisk (state g new) → HasCleanDisk (state g old)
    pub mode : old.in_transaction ≡ false → new.in_transaction ≡ false
    pub kept : (content : Content) → HoldsTables old content → HasCleanDisk (state g new)
        → KeepsCommit (state g old) (state g new)
    pub left : (content : Content) → HoldsTables old content → HasCleanDisk (state g new)
        → (trees : Trees) → (state g new).may_leave trees → (state g old).may_leave trees
    pub goes : (content : Content) → HoldsTables old content → HasCleanDisk (state g new)
        → StateAfterCall (state g old) (state g new)

-- The contract of a query, if the disk returned what was written to it. If the query succeeds, its
-- result is true of the tables. If the query fails, the error is that of the store
-- (`IsStoreError`), and never `Damaged`. The query changes nothing.
pub record Finds {S A : Type 0} (g : Ghosts S) (old new : Held S) (result : Result A RowFault)
    (Says : Content → A → Type 0) : Type 0 where
  pub answer : (content : Content) → HoldsTables g old content → HasCleanDisk (state g new)
      → IfOk result (Says content)
  pub fault : (content : Content) → HoldsTables g old content → HasCleanDisk (state g new)
      → IfErr result (IsFault (state g old) (state g new) (Unit {0}))
  pub looks : OnlyLooks g old new
