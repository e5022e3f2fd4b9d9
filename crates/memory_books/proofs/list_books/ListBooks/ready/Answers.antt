use Rattle.memory_books.proofs.Reading.{ready}
use Rattle.memory_books.proofs.list_books.ListBooks.ready.Goals as goal

pub returns-clause-reads : goal.returns-clause-reads
returns-clause-reads c =
    ready c.args.self.now c.catch_up-done.new.self c.note_failure.new.last_failure c.note_failure.result c.catch_up-done.ensures.keeps
    c.catch_up-done.ensures.zone c.catch_up-done.ensures.failure c.note_failure.ensures.noted
