use Rattle.memory_books.proofs.FailingReads.{read_first, read_on}
use Rattle.memory_books.proofs.failing.FailingBooksBooks.holds.Goals as goal

pub returns-clause-reads : goal.returns-clause-reads
returns-clause-reads g c =
    read_on c.args.self.now.books c.called-2.new.self.books c.holds-found.new.self c.args.self.now.failures c.called-2.new.self.failures c.noted-2.new.self
    c.holds-found.result c.noted-2.result c.in_ok-called.ensures.books c.in_ok-called.ensures.noted c.noted-2.ensures.answer c.noted-2.ensures.noted c.holds-found.ensures.reads

pub returns-then-self-clause-reads : goal.returns-then-self-clause-reads
returns-then-self-clause-reads g c =
    read_first c.args.self.now.books c.holds-handed.new.self c.called.new.self.books c.args.self.now.failures c.noted.new.self c.called.new.self.failures
    _ c.holds-handed.result c.called.result c.in_ok-noted.ensures.answer c.noted.ensures.noted c.called.ensures.books c.called.ensures.noted c.holds-handed.ensures.reads
