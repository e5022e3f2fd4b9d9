use Rattle.std.proofs.Common.{◌≡◌, Some, sym}
use Rattle.office_books.specs.Facts.{list_of}
use Rattle.office_books.specs.Plans.{read_count_of}
use Rattle.memory_books.proofs.KeptLemmas.Answering.{some_so}
use Rattle.memory_books.proofs.kept.kept.CachedBooksBooks.read_count.Goals as goal

pub returns-in-Some-clause-found : goal.returns-in-Some-clause-found
returns-in-Some-clause-found g c = λ known holds clean.
    sym (some_so (λ n. read_count_of (list_of known c.args.device.now) ≡ Some n) c.read_count.result c.in-Some.count c.in-Some.is (c.read_count.ensures known (holds.1 clean)))
