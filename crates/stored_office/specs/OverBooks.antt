-- Defines what it means that a task ran over the store in a database.
use Rattle.std.specs.Prelude.{ℕ, List}
use Rattle.sqlite.specs.Store.{Ghosts}
use Rattle.office_books.specs.History.{History, facts_of}
use Rattle.office_books.specs.Ledgers.{Ledger}
use Rattle.memory_books.specs.declared.kept.kept.CachedBooks.{CachedBooks}
use Rattle.memory_books.specs.Kept.Keeping.{beneath, ledger_over}
use Rattle.office_store.specs.Database.{HoldsAlone}
use Rattle.office_store.specs.declared.books.SqlBooks.{SqlBooks}
use Rattle.stored_files.specs.BooksFound.{ledger_beneath}

module _ {S : Type 0} (g : Ghosts S) where
  -- The logical model of a store in a database, as seen through a cache of records that were
  -- already read.
  abbrev pub ledger_in : CachedBooks (SqlBooks S g) → Ledger
  ledger_in books = ledger_over (ledger_beneath g) books

  -- States that a task ran over the store in a database. Before the task, the store had exactly the
  -- records of the accepted events `past`, and all of them would have survived a crash.
  --
  -- `Does` is a relation between the store before the task and the store after it. If the database
  -- returned no wrong result that the task used, `Does` holds; otherwise nothing is stated about
  -- the store after the task.
  pub record OverBooks (past : History)
      (Does : (found left : CachedBooks (SqlBooks S g)) → Type 0) : Type 0 where
    pub zone : List ℕ
    pub found : CachedBooks (SqlBooks S g)
    pub holds : HoldsAlone g zone (beneath found).connection (facts_of past)
    pub left : CachedBooks (SqlBooks S g)
    pub does : (ledger_in left).is_clean → Does found left
