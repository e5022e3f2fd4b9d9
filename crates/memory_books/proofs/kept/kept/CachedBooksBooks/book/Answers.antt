use Rattle.std.proofs.Common.{◌≡◌, [], arith}
use Rattle.std.proofs.lemmas.Grind.{common_steps}
use Rattle.memory_books.proofs.KeptLemmas.Booking.{nothing_booked, booked, failed}
use Rattle.memory_books.proofs.kept.kept.CachedBooksBooks.book.Goals as goal

pub returns-then-is_empty : goal.returns-then-is_empty
returns-then-is_empty g c =
    let none : c.args.facts.items ≡ [] = grind (arith, common_steps, c.if-is_empty.ensures, c.if-is_empty.true) in
    record {
      books = nothing_booked (g.B.Books.ledger c.args.self.now.books) (g.B.Books.ledger c.book.new.self) c.args.self.now.known c.args.facts.items
          c.book.result none c.book.ensures.books;
    }

pub returns-in-Ok : goal.returns-in-Ok
returns-in-Ok g c =
    let some : c.args.facts.items ≡ [] → ⊥ = λ none. grind (arith, common_steps, c.if-is_empty.ensures) in
    record {
      books = booked (g.B.Books.ledger c.args.self.now.books) (g.B.Books.ledger c.book-2.new.self) c.args.self.now.known c.add_all.new.self
          c.deref.result.now c.args.facts.items tt some c.deref.ensures.value c.add_all.ensures c.in-Ok.ensures.books;
    }

pub returns-in-Err : goal.returns-in-Err
returns-in-Err g c =
    let some : c.args.facts.items ≡ [] → ⊥ = λ none. grind (arith, common_steps, c.if-is_empty.ensures) in
    record {
      books = failed (g.B.Books.ledger c.args.self.now.books) (g.B.Books.ledger c.book-2.new.self) c.args.self.now.known c.new.result
          c.args.facts.items c.in-Err.fault some c.new.ensures c.in-Err.ensures.books;
    }
