use Rattle.memory_books.proofs.Reading.{only_noted, reads_then}
use Rattle.memory_books.proofs.list_books.ListBooksBooks.meters.Goals as goal

pub returns-clause-reads : goal.returns-clause-reads
returns-clause-reads c =
    reads_then _ _ _ _ c.note_failure.result c.in_ok-ready.ensures.reads
    (only_noted c.ready.new.self c.note_failure.new.last_failure c.note_failure.result c.note_failure.ensures.noted)
