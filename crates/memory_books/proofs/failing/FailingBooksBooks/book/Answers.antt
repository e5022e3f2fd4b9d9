use Rattle.std.proofs.Common.{◌≡◌, [], refl, arith}
use Rattle.std.proofs.lemmas.Grind.{common_steps}
use Rattle.memory_books.proofs.Booking.{passed, refused}
use Rattle.memory_books.proofs.failing.FailingBooksBooks.book.Goals as goal

pub returns-then-is_empty : goal.returns-then-is_empty
returns-then-is_empty c = record {
  books = passed c.args.self.now.books c.args.self.now.books c.book-done.new.self c.args.self.now.failures c.args.self.now.failures c.noted.new.self
      c.args.facts.items c.book-done.result c.noted.result refl refl c.noted.ensures.answer c.noted.ensures.noted c.book-done.ensures.books;
}

pub returns-in-Ok : goal.returns-in-Ok
returns-in-Ok c = record {
  books = passed c.args.self.now.books c.called.new.self.books c.book-done-in-Ok.new.self c.args.self.now.failures c.called.new.self.failures c.noted-in-Ok.new.self
      c.args.facts.items c.book-done-in-Ok.result c.noted-in-Ok.result c.in-Ok.ensures.books c.in-Ok.ensures.noted c.noted-in-Ok.ensures.answer
      c.noted-in-Ok.ensures.noted c.book-done-in-Ok.ensures.books;
}

pub returns-in-Err : goal.returns-in-Err
returns-in-Err c =
    let some : c.args.facts.items ≡ [] → ⊥ = λ none. grind (arith, common_steps, c.if-is_empty.ensures) in
    record {
      books = refused c.args.self.now.books c.called.new.self.books c.args.self.now.failures c.called.new.self.failures
          c.args.facts.items c.in-Err.fault c.in-Err.ensures.books c.in-Err.ensures.noted some;
    }
