use Rattle.memory_books.proofs.FailingReads.{finds_on, read_on}
use Rattle.memory_books.proofs.failing.FailingBooksBooks.pending.Goals as goal

pub returns-clause-found : goal.returns-clause-found
returns-clause-found c =
    finds_on c.args.self.now.books c.called.new.self.books c.pending-found.new.self c.args.self.now.failures c.noted.new.self _ c.pending-found.result c.noted.result
    c.in_ok-called.ensures.books c.noted.ensures.answer c.pending-found.ensures.found

pub returns-clause-reads : goal.returns-clause-reads
returns-clause-reads c =
    read_on c.args.self.now.books c.called.new.self.books c.pending-found.new.self c.args.self.now.failures c.called.new.self.failures c.noted.new.self
    c.pending-found.result c.noted.result c.in_ok-called.ensures.books c.in_ok-called.ensures.noted c.noted.ensures.answer c.noted.ensures.noted c.pending-found.ensures.reads
