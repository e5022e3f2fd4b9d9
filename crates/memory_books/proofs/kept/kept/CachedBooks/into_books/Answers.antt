use Rattle.memory_books.proofs.KeptLemmas.Beneath.{ends}
use Rattle.memory_books.proofs.kept.kept.CachedBooks.into_books.Goals as goal

pub returns-clause-stands : goal.returns-clause-stands
returns-clause-stands g c = ends (g.B.Books.ledger c.args.self.books) c.args.self.known
