use Rattle.std.proofs.Common.{◌≡◌, Ok, Some, sym}
use Rattle.office_books.specs.Facts.{list_of}
use Rattle.memory_books.proofs.KeptLemmas.Answering.{some_so}
use Rattle.memory_books.proofs.KeptLemmas.Reading.{asked}
use Rattle.memory_books.proofs.kept.kept.CachedBooksBooks.list.Goals as goal

pub returns-in-Some-clause-found : goal.returns-in-Some-clause-found
returns-in-Some-clause-found g c = λ known holds clean.
    sym (some_so (λ list. list_of known c.args.device.now ≡ Some list) c.list.result c.in-Some.list c.in-Some.is (c.list.ensures known (holds.1 clean)))

pub returns-clause-reads : goal.returns-clause-reads
returns-clause-reads g c =
    asked (g.B.Books.ledger c.args.self.now.books) (g.B.Books.ledger c.list-2.new.self) c.args.self.now.known c.keep_list.new.self
    (Ok c.in_ok-found.found)
    (λ known holds clean are. c.keep_list.ensures known (c.in_ok-found.ensures.found known holds clean) are) c.in_ok-found.ensures.reads
