use Rattle.office_store.proofs.Booking.{booked}
use Rattle.office_store.proofs.tables.SqlBooksBooks.book.Goals as goal

pub returns : goal.returns
returns g c = record {
  books = booked c.databases_give_their_records.ensures g.S.Store c.args.self.now.connection c.book_facts-done.new.conn c.args.self.now.failures c.answered.new.failures
      c.args.self.now.zone c.args.facts.items c.deref.result.now c.deref.ensures.value c.book_facts-done.result c.answered.result c.answered.ensures.answer c.answered.ensures.noted c.book_facts-done.ensures.books;
}
