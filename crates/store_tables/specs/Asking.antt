-- What a query leaves unchanged, and relations between its answer and the rows of the table that
-- the query reads.
use Rattle.std.specs.Prelude.{◌≡◌, ℕ, Bool, false, List, take, map, Result, Vec, IsTrue, IfOk, IfErr, OnOk, MatchResult}
use Rattle.std.specs.List.{AllByRecursion}
use Rattle.sqlite.specs.Order.{Row}
use Rattle.sqlite.specs.declared.error.Error.{Error}
use Rattle.sqlite.specs.Store.{Ghosts}
use Rattle.sqlite.specs.Held.{Held, state}
use Rattle.sqlite.specs.State.{HasCleanDisk, KeepsCommit, Survives}
use Rattle.store_tables.specs.declared.faults.RowFault.{RowFault}
use Rattle.store_tables.specs.Failing.{IsStoreError, IsFault, IsRowFault}
use Rattle.store_tables.specs.Content.{Content, AreTables, HasRows}
use Rattle.store_tables.specs.Answer.{AreFound}

-- What a query of a database with the store's schema leaves unchanged: it commits nothing, and
-- opens no transaction.
pub record Asks {S : Type 0} (g : Ghosts S) (old new : Held S) : Type 0 where
  pub clean : HasCleanDisk (state g new) → HasCleanDisk (state g old)
  pub mode : old.in_transaction ≡ false → new.in_transaction ≡ false
  pub kept : HasCleanDisk (state g new) → (content : Content) → AreTables (state g old).now content
      → KeepsCommit (state g old) (state g new)
  pub survives : (content : Content) → AreTables (state g old).now content
      → Survives (state g old) (state g new) (λ _. ⊥)

-- What a query inside a transaction leaves unchanged: it commits nothing. If the query succeeds,
-- the transaction stays open and no row is changed.
pub record AsksInside {S X E : Type 0} (g : Ghosts S) (old new : Held S) (result : Result X E) :
    Type 0 where
  pub kept : HasCleanDisk (state g new) → (content : Content) → AreTables (state g old).now content
      → KeepsCommit (state g old) (state g new)
  pub unchanged : HasCleanDisk (state g new) → (content : Content)
      → AreTables (state g old).now content
      → IsTrue old.in_transaction
      → OnOk result (IsTrue new.in_transaction × ((state g new).now ≡ (state g old).now))
  pub survives : Survives (state g old) (state g new) (λ _. ⊥)

-- True if a list of result rows is the result of a SELECT: the rows that pass the WHERE test, in
-- the order that the relation `Later` defines.
abbrev pub Shows : {X : Type 0} → (passes : X → Bool) → (Later : X → X → Type 0) → (shown : X → Row)
    → (rows : List X) → (answer : List Row) → Type 0
Shows {X} passes Later shown rows answer =
    (found : List X) × AreFound passes Later rows found × (answer ≡ map shown found)

-- True if `answer` is the result of a SELECT with LIMIT 1: the first row, in the order `Later`,
-- that passes the WHERE test. The result is empty if no row passes.
abbrev pub ShowsFirst : {X : Type 0} → (passes : X → Bool) → (Later : X → X → Type 0)
    → (shown : X → Row) → (rows : List X) → (answer : List Row) → Type 0
ShowsFirst {X} passes Later shown rows answer =
    (found : List X) × AreFound passes Later rows found × (answer ≡ take 1 (map shown found))

-- True if an Ok answer of a query has the relation `Answers` to the rows of one table, and any
-- error has a permitted cause. Permitted causes are out of memory, a closed database, a failed disk
-- and SQLite's limit of steps.
abbrev pub ReportsAnswer : {S A X : Type 0} → Ghosts S → (old new : Held S) → (tree : ℕ)
    → (columns : X → Row) → (result : Result A Error) → (Answers : List X → A → Type 0) → Type 0
ReportsAnswer {S} {A} {X} g old new tree columns result Answers =
    HasCleanDisk (state g new) → (content : Content) → AreTables (state g old).now content
    → (rows : List X) → HasRows tree columns rows content
    → MatchResult result (Answers rows) (IsStoreError (state g old) (state g new))

-- True if the result rows of an Ok answer have the relation `Answers` to the rows of one table, and
-- any error has a permitted cause. Examples of permitted causes are out of memory and a failed
-- disk.
abbrev pub ReportsRows : {S X Z : Type 0} → Ghosts S → (old new : Held S) → (tree : ℕ)
    → (columns : X → Row) → (result : Result (Vec Row Z) Error)
    → (Answers : List X → List Row → Type 0) → Type 0
ReportsRows {S} {X} {Z} g old new tree columns result Answers =
    ReportsAnswer g old new tree columns result (λ rows answer. Answers rows answer.items)

-- True if a reader returns the value that a result row encodes. The reader reports `Damaged` only
-- for a value out of its range. The only other fault is out of memory.
pub record ReadsRow {A X : Type 0} (row : Row) (shown : X → Row) (IsSeen : X → A → Type 0)
    (IsSound : X → Type 0) (result : Result A RowFault) : Type 0 where
  pub read : (x : X) → row ≡ shown x → IfOk result (IsSeen x)
  pub fault : (x : X) → row ≡ shown x → IfErr result (IsRowFault (IsSound x))

-- True if a function runs one query, and its Ok answer has the relation `Answers` to the table's
-- rows. The function reports `Damaged` only if a row has a value out of its range. Any other fault
-- has a permitted cause, such as out of memory or a failed disk.
pub record LooksUp {S A X : Type 0} (g : Ghosts S) (old new : Held S) (tree : ℕ) (columns : X → Row)
    (IsSound : X → Type 0) (result : Result A RowFault) (Answers : List X → A → Type 0) : Type 0
  where
    pub asks : Asks g old new
    pub answer : HasCleanDisk (state g new) → (content : Content)
        → AreTables (state g old).now content
        → (rows : List X) → HasRows tree columns rows content → IfOk result (Answers rows)
    pub fault : HasCleanDisk (state g new) → (content : Content)
        → AreTables (state g old).now content
        → (rows : List X) → HasRows tree columns rows content
        → IfErr result (IsFault (state g old) (state g new) (AllByRecursion IsSound rows))
