-- Definitions of contracts: the effect of a database call inside a transaction, and the effect of a
-- complete transaction.
use Rattle.std.specs.Prelude.{◌≡◌, Result, IsTrue, OnOk, OnErr}
use Rattle.std.specs.Borrow.{MutBor}
use Rattle.sqlite.specs.Effect.{Database}
use Rattle.sqlite.specs.Schema.{Schema}
use Rattle.sqlite.specs.State.{State, HasCleanDisk, KeepsCommit, Survives}
use Rattle.store_tables.specs.Schema.{books_schema}
use Rattle.store_tables.specs.Content.{Content, AreTablesIn}

-- True if two mutable borrows are of the same connection, so that the connection's owner sees the
-- state after a call.
abbrev pub IsSameBorrow : {X : Type 0} → MutBor X → MutBor X → Type 0
IsSameBorrow old new = new.ghost_name ≡ old.ghost_name

-- States that a database call keeps the given schema, and that the given relation relates the old
-- content (the rows of the tables) to the new content. Nothing is stated if the old database has
-- another schema.
abbrev pub TurnsIn : Schema → (Content → Content → Type 0) → Database → Database → Type 0
TurnsIn schema Makes old new = (content : Content) → AreTablesIn schema old content
    → (after : Content) × Makes content after × AreTablesIn schema new after

-- States that a database call keeps the store's schema, and that the given relation relates the old
-- content (the rows of the tables) to the new content. Nothing is stated if the old database has
-- another schema.
abbrev pub Turns : (Content → Content → Type 0) → Database → Database → Type 0
Turns = TurnsIn books_schema

-- The contract of a call inside a transaction. At Ok, the given relation holds between the old and
-- the new database. The call commits nothing.
pub record StepsTo {X E : Type 0} (old new : State) (result : Result X E)
    (Goes : Database → Database → Type 0) : Type 0 where
  pub kept : HasCleanDisk new → IsTrue old.in_transaction → KeepsCommit old new
  pub inside : HasCleanDisk new → IsTrue old.in_transaction
      → OnOk result (IsTrue new.in_transaction)
  pub rows : HasCleanDisk new → IsTrue old.in_transaction → OnOk result (Goes old.now new.now)
  pub survives : Survives old new (λ _. ⊥)

-- The contract of a call inside a transaction. At Ok, the given relation holds between the old and
-- the new content of the store's tables.
abbrev pub Steps : {X E : Type 0} → State → State → Result X E → (Content → Content → Type 0)
    → Type 0
Steps old new result Makes = StepsTo old new result (Turns Makes)

-- The contract of a complete transaction. At Ok, it commits all changes, and on an error none.
-- After a crash, the file has either the old rows, or all changes.
pub record TransactsTo {X E : Type 0} (old new : State) (result : Result X E)
    (Goes : Database → Database → Type 0) : Type 0 where
  pub ok : HasCleanDisk new
      → OnOk result (IsTrue old.is_open × IsTrue new.is_open × Goes old.now new.committed)
  pub err : HasCleanDisk new → OnErr result (KeepsCommit old new)
  pub survives : Survives old new (λ trees. (db : Database) × Goes old.now db × (trees ≡ db.trees))

-- The contract of a complete transaction after which the given relation holds between the old and
-- the new content of the store's tables.
abbrev pub Transacts : {X E : Type 0} → State → State → Result X E → (Content → Content → Type 0)
    → Type 0
Transacts old new result Makes = TransactsTo old new result (Turns Makes)
