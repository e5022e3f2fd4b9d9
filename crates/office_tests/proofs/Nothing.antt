-- Proves that an empty store has exactly the records that the empty history of events requires:
-- none.
use Rattle.std.proofs.Common.{zero, suc, [], ◌∷◌, inl, refl, arith}
use Rattle.std.specs.Prelude.{All}
use Rattle.memory_books.specs.declared.list_books.ListBooks.{ListBooks}
use Rattle.memory_books.specs.Listed.{AreListed, ledger_of}
use Rattle.office_core.specs.Leaving.{MayBeLeft, BooksStand}

nothing_left : All (MayBeLeft []) ([] ∷ [])
nothing_left zero d less = inl refl
nothing_left (suc k) d less = absurd (omega arith)

pub stands_after_nothing : (books : ListBooks) → AreListed books [] → BooksStand (ledger_of books) []
stands_after_nothing books listed = record {
  is_past = record { accepted = tt; planned = tt };
  holds = listed;
  leaves = record { left = [] ∷ []; may = inl listed; each = nothing_left };
}
