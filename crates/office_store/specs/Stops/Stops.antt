-- Defines which records the next open of a database finds in its files after a crash.
use Rattle.std.specs.Prelude.{◌≡◌, ℕ, List, IsTrue}
use Rattle.sqlite_disk.specs.declared.Disk.{Ghosts}
use Rattle.sqlite_wal.specs.Recovery.{Image}
use Rattle.sqlite_store.specs.declared.store.FileStore.{FileStore}
use Rattle.sqlite_store.specs.FileStore.{state as store_state, view, recovers}
use Rattle.sqlite.specs.Tree.{Trees}
use Rattle.sqlite.specs.Effect.{Database, IsDatabase}
use Rattle.sqlite.specs.Files.{HoldsDatabase, IsOpened, file_state}
use Rattle.sqlite.specs.Held.{Held}
use Rattle.sqlite.specs.Start.{FindsIn}
use Rattle.office_events.specs.declared.facts.Fact.{Fact}
use Rattle.office_store.specs.Holding.{HasFacts, IsLeft, IsOneOf}

-- True if the database `db` encodes one of the lists of records in `left`.
pub record HasOneOf (zone : List ℕ) (left : List (List Fact)) (db : Database) : Type 0 where
  pub facts : List Fact
  pub one : IsOneOf left facts
  pub has : HasFacts zone facts db

-- True if `db` is the database that SQLite finds in `image`, a database file and its write-ahead
-- log.
pub record IsFoundIn (image : Image) (db : Database) : Type 0 where
  pub sound : IsDatabase db
  pub holds : (trees : Trees) → HoldsDatabase image trees → db.trees ≡ trees

module _ {D : Type 0} (g : Ghosts D) where
  -- True if the next open of the database finds one of the given lists of records, after any crash
  -- that the given database files allow.
  abbrev pub LeaveInFiles : List ℕ → List (List Fact) → FileStore D g → Type 0
  LeaveInFiles zone left it = (image : Image) (db : Database) → (store_state it).may_leave image
      → IsFoundIn image db → ∥ HasOneOf zone left db ∥₁

  -- Theorem: if every database that SQLite may recover from the files encodes one of several lists
  -- of records, the next open of the database finds one of these lists.
  abbrev pub StopsLeaveFacts : Type 0
  StopsLeaveFacts = (zone : List ℕ) (left : List (List Fact)) (it : FileStore D g)
      → IsTrue (view it).is_numbered
      → ((trees : Trees) → recovers it trees → IsLeft zone left trees) → LeaveInFiles zone left it

  -- Theorem: if a connection was just opened from database files, the tables that it has committed
  -- are those that SQLite finds in the files.
  abbrev pub OpenedFilesAreFound : Type 0
  OpenedFilesAreFound = (image : Image) (h : Held (FileStore D g)) → IsOpened h
      → FindsIn image (file_state h) → IsFoundIn image (file_state h).committed
