-- Defines how calls inside a transaction, and a complete transaction, change the tables.
use Rattle.std.specs.Prelude.{◌≡◌, ℕ, List, Result, IsTrue, OnOk, OnErr}
use Rattle.sqlite.specs.Tree.{Trees}
use Rattle.sqlite.specs.Effect.{Database}
use Rattle.sqlite.specs.Order.{Row}
use Rattle.sqlite.specs.State.{State, HasCleanDisk, KeepsCommit, Survives}
use Rattle.store_tables.specs.Content.{Content, AreTables, HasRows}

-- True if a database has the store's tables, and their content results from the old content by the
-- effect `Makes` of a call.
abbrev pub HasMade : (Content → Content → Type 0) → Content → Database → Type 0
HasMade Makes content db = (after : Content) × Makes content after × AreTables db after

-- The contract of a call inside a transaction, if reads of the database file return the written
-- bytes. On `Ok`, the relation `Makes` holds between the old and the new content of the tables. The
-- call commits nothing.
pub record Goes {X E : Type 0} (old new : State) (result : Result X E)
    (Makes : Content → Content → Type 0) : Type 0 where
  pub kept : HasCleanDisk new → IsTrue old.in_transaction → (content : Content)
      → AreTables old.now content → KeepsCommit old new
  pub makes : HasCleanDisk new → IsTrue old.in_transaction → (content : Content)
      → AreTables old.now content
      → OnOk result (IsTrue new.in_transaction × HasMade Makes content new.now)
  pub survives : Survives old new (λ _. ⊥)

-- True if the B-trees `trees` store a database that a transaction may leave: its content results
-- from the old content of the tables by the effect `Makes`.
pub record AreMade (old : State) (Makes : Content → Content → Type 0) (trees : Trees) : Type 0 where
  pub db : Database
  pub made : (content : Content) → AreTables old.now content → HasMade Makes content db
  pub same : trees ≡ db.trees

-- The contract of a complete transaction, if reads of the database file return the written bytes.
-- On `Ok`, the transaction commits all changes, and on an error none. A crash leaves either the old
-- tables or all changes.
pub record Commits {X E : Type 0} (old new : State) (result : Result X E)
    (Makes : Content → Content → Type 0) : Type 0 where
  pub ok : HasCleanDisk new → (content : Content) → AreTables old.now content
      → OnOk result (IsTrue old.is_open × IsTrue new.is_open × HasMade Makes content new.committed)
  pub err : HasCleanDisk new → (content : Content) → AreTables old.now content
      → OnErr result (KeepsCommit old new)
  pub survives : Survives old new (AreMade old Makes)

-- True if a query changed nothing, and its answer fits the rows of one table: `Answers`, the
-- relation that this definition gets as an argument, holds between the rows and the answer.
pub record Reported {A X : Type 0} (tree : ℕ) (columns : X → Row) (Answers : List X → A → Type 0)
    (answer : A) (content after : Content) : Type 0 where
  pub same : after ≡ content
  pub answers : (rows : List X) → HasRows tree columns rows content → Answers rows answer
