use Rattle.memory_books.proofs.Reading.{only_noted}
use Rattle.memory_books.proofs.list_books.ListBooksBooks.devices.Goals as goal

pub returns-clause-reads : goal.returns-clause-reads
returns-clause-reads c = only_noted c.args.self.now c.note_failure.new.last_failure c.note_failure.result c.note_failure.ensures.noted
