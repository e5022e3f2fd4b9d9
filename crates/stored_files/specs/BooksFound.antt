-- Defines the records in a database file, and the logical model of a store in the database.
use Rattle.std.specs.Prelude.{ℕ, List}
use Rattle.sqlite.specs.Store.{Ghosts}
use Rattle.sqlite.specs.Held.{Held}
use Rattle.office_books.specs.History.{History, facts_of}
use Rattle.office_books.specs.Lawfulness.{IsPast}
use Rattle.office_books.specs.Ledgers.{Ledger}
use Rattle.office_store.specs.Stored.{ledger_of}
use Rattle.office_store.specs.Database.{HasFile}
use Rattle.office_store.specs.declared.books.SqlBooks.{SqlBooks}

module _ {S : Type 0} (g : Ghosts S) where
  -- States that the database file of the connection `h` has exactly the records of the accepted
  -- events `past`.
  pub record HasPast (h : Held S) (past : History) : Type 0 where
    pub zone : List ℕ
    pub is_past : IsPast past
    pub has : HasFile g zone h (facts_of past)

  -- The logical model of the store in a database file. The contracts of queries and writes refer to
  -- this model.
  abbrev pub ledger_beneath : SqlBooks S g → Ledger
  ledger_beneath books = ledger_of g books.connection books.failures books.zone
