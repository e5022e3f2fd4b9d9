use Rattle.std.proofs.Common.{◌≡◌, Ok, ◌∙◌}
use Rattle.office_books.specs.Facts.{registers_of}
use Rattle.memory_books.proofs.KeptLemmas.Answering.{some_so}
use Rattle.memory_books.proofs.KeptLemmas.Reading.{asked}
use Rattle.memory_books.proofs.kept.kept.CachedBooksBooks.registers.Goals as goal

pub returns-in-Some-clause-found : goal.returns-in-Some-clause-found
returns-in-Some-clause-found g c = λ known holds clean.
    some_so (λ v. v.items ≡ registers_of known c.args.device.now) c.registers.result c.in-Some.registers c.in-Some.is
    (c.registers.ensures known (holds.1 clean))

pub returns-clause-reads : goal.returns-clause-reads
returns-clause-reads g c =
    asked (g.B.Books.ledger c.args.self.now.books) (g.B.Books.ledger c.registers-2.new.self) c.args.self.now.known c.keep_registers.new.self
    (Ok c.in_ok-found.found)
    (λ known holds clean are. c.keep_registers.ensures known (c.deref.ensures.value ∙ c.in_ok-found.ensures.found known holds clean) are)
    c.in_ok-found.ensures.reads
