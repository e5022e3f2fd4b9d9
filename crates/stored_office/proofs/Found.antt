-- Lemma: when a task begins, its database has the records of one history of accepted events. The
-- store that the task opens in the database has exactly these records.
use Rattle.std.proofs.Common.{◌≡◌, ℕ, List, sym, subst}
use Rattle.sqlite.specs.Store.{Ghosts}
use Rattle.office_books.specs.History.{History, facts_of}
use Rattle.office_books.specs.Lawfulness.{IsPast}
use Rattle.office_books.specs.Ledgers.{Ledger}
use Rattle.office_core.specs.Leaving.{BooksStand}
use Rattle.office_store.specs.Database.{HoldsAlone}
use Rattle.office_store.specs.declared.books.SqlBooks.{SqlBooks}
use Rattle.memory_books.specs.declared.kept.kept.CachedBooks.{CachedBooks}
use Rattle.memory_books.specs.Kept.Keeping.{StandsAs, beneath}
use Rattle.stored_files.proofs.Standing.{stands_alone}
use Rattle.stored_files.specs.BooksFound.{ledger_beneath}
use Rattle.stored_office.specs.OverBooks.{OverBooks, ledger_in}

-- Suppose that two models of a store have the same records. If the first model has exactly the
-- records of a history of events, then the second model has exactly these records too.
stands_so : (before after : Ledger) (past : History) → StandsAs before after → BooksStand before past → BooksStand after past
stands_so before after past meant stand = record {
  is_past = stand.is_past;
  holds = meant.facts (facts_of past) stand.holds;
  leaves = record { left = stand.leaves.left; may = meant.left stand.leaves.left stand.leaves.may; each = stand.leaves.each };
}

pub over : {S : Type 0} (g : Ghosts S) (past : History) (books : SqlBooks S g) (found left : CachedBooks (SqlBooks S g))
    (Does : (found left : CachedBooks (SqlBooks S g)) → Type 0) (zone : List ℕ) → IsPast past
    → HoldsAlone g zone books.connection (facts_of past)
    → beneath found ≡ books → StandsAs (ledger_beneath g books) (ledger_in g found)
    → (BooksStand (ledger_in g found) past → (ledger_in g left).is_clean → Does found left) → OverBooks g past Does
over {S = S} g past books found left Does zone is alone same meant reports = record {
  zone = zone;
  found = found;
  holds = subst (λ (b : SqlBooks S g). HoldsAlone g zone b.connection (facts_of past)) (sym same) alone;
  left = left;
  does = λ clean.
      reports (stands_so (ledger_beneath g books) (ledger_in g found) past meant
      (stands_alone g zone books.connection books.failures books.zone past is alone)) clean;
}
