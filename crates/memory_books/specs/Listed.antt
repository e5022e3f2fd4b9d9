-- Definition of when a store in memory agrees with a list of records, and the store's model (the
-- abstract state that contracts refer to).
use Rattle.std.specs.Prelude.{◌≡◌, ◌⊎◌, List, [], ◌∷◌, reverse}
use Rattle.memory_books.specs.Tables.Whole.{HaveCome}
use Rattle.office_books.specs.Ledgers.{Ledger, with_facts}
use Rattle.office_events.specs.declared.facts.Fact.{Fact}
use Rattle.memory_books.specs.Figures.{AreFigures}
use Rattle.memory_books.specs.Looking.{failures_in}
use Rattle.memory_books.specs.declared.list_books.ListBooks.{ListBooks}
use Rattle.office_books.specs.Lawful.{AreLawful}

-- True if the store in memory has exactly these records, and the rules for adding records accept
-- each record after the records before it. The number of meters and the latest timestamp agree with
-- all records. Each lookup table has the content that follows from the records for which it was
-- already updated.
pub record AreListed (books : ListBooks) (known : List Fact) : Type 0 where
  pub lawful : AreLawful known
  pub facts : books.facts.items ≡ reverse known
  pub tables : HaveCome books.tables books.facts.items
  pub figures : AreFigures books.figures known

-- States that, if the store's old figures (number of meters, latest timestamp) agree with its
-- records, the new figures agree with the records plus `facts`.
abbrev pub FiguresFollow : (facts : List Fact) → (old new : ListBooks) → Type 0
FiguresFollow facts old new = (known : List Fact) → old.facts.items ≡ reverse known
    → AreFigures old.figures known
    → AreFigures new.figures (with_facts facts known)

-- True if the store in memory has exactly the records of one of the given lists. The lookup tables,
-- the number of meters and the latest timestamp follow from these records.
abbrev pub HasOne : ListBooks → List (List Fact) → Type 0
HasOne books [] = ⊥
HasOne books (known ∷ left) = AreListed books known ⊎ HasOne books left

-- The abstract state of a store in memory, which contracts refer to. The store never returns a
-- wrong result (it is clean), is always open, and fails only if memory runs out.
--
-- In the model of a store in memory, the store still has all of its records after a crash.
abbrev pub ledger_of : ListBooks → Ledger
ledger_of books = record {
  holds = AreListed books;
  may_leave = HasOne books;
  is_clean = Unit {0};
  is_open = Unit {0};
  failures = failures_in books.last_failure;
  zone = books.zone;
}
