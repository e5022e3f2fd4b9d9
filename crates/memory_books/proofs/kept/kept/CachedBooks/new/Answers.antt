use Rattle.memory_books.proofs.KeptLemmas.Beneath.{begins}
use Rattle.memory_books.proofs.kept.kept.CachedBooks.new.Goals as goal

pub returns-clause-stands : goal.returns-clause-stands
returns-clause-stands g c = begins (g.B.Books.ledger c.args.books) c.new.result c.new.ensures
