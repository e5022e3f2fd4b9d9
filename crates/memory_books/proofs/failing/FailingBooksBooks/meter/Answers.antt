use Rattle.memory_books.proofs.FailingReads.{as_found, finds_on, read_on}
use Rattle.memory_books.proofs.failing.FailingBooksBooks.meter.Goals as goal

pub returns-clause-found : goal.returns-clause-found
returns-clause-found c =
    finds_on c.args.self.now.books c.called.new.self.books c.meter-found.new.self c.args.self.now.failures c.noted.new.self _ c.meter-found.result c.noted.result
    c.in_ok-called.ensures.books c.noted.ensures.answer c.meter-found.ensures.found

pub returns-clause-reads : goal.returns-clause-reads
returns-clause-reads c = record {
  reads = read_on c.args.self.now.books c.called.new.self.books c.meter-found.new.self c.args.self.now.failures c.called.new.self.failures c.noted.new.self
      c.meter-found.result c.noted.result c.in_ok-called.ensures.books c.in_ok-called.ensures.noted c.noted.ensures.answer c.noted.ensures.noted c.meter-found.ensures.reads.reads;
  sound = as_found _ c.meter-found.result c.noted.result c.noted.ensures.answer c.meter-found.ensures.reads.sound;
}
