use Rattle.office_store.proofs.Booking.{one_books}
use Rattle.office_store.proofs.tables.SqlBooksBooks.tables_are_known.Goals as goal

pub returns : goal.returns
returns g c = one_books c.databases_give_their_records.ensures g.S.Store c.args.self.now.connection
