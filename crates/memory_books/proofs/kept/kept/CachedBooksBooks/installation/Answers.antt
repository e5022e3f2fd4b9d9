use Rattle.std.proofs.Common.{Ok}
use Rattle.memory_books.proofs.KeptLemmas.Reading.{asked}
use Rattle.memory_books.proofs.kept.kept.CachedBooksBooks.installation.Goals as goal

pub returns-clause-reads : goal.returns-clause-reads
returns-clause-reads g c = record {
  reads = asked (g.B.Books.ledger c.args.self.now.books) (g.B.Books.ledger c.installation-2.new.self) c.args.self.now.known c.keep_installation.new.self
      (Ok c.in_ok-found.found)
      (λ known holds clean are. c.keep_installation.ensures known (c.in_ok-found.ensures.found known holds clean) are)
      c.in_ok-found.ensures.reads.reads;
  sound = c.in_ok-found.ensures.reads.sound;
}
