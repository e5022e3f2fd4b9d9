use Rattle.std.proofs.Common.{◌≡◌, Ok, ap, ◌∙◌}
use Rattle.std.specs.List.{filter}
use Rattle.office_books.specs.Facts.{registers_of}
use Rattle.office_books.specs.Readings.{is_read_by}
use Rattle.memory_books.proofs.KeptLemmas.Answering.{some_so}
use Rattle.memory_books.proofs.KeptLemmas.Reading.{answered_with, asked}
use Rattle.memory_books.proofs.kept.kept.CachedBooksBooks.registers_read.Goals as goal

pub returns-in-Some-clause-found : goal.returns-in-Some-clause-found
returns-in-Some-clause-found g c = λ known holds clean.
    some_so (λ v. v.items ≡ filter (is_read_by c.args.span) (registers_of known c.args.device.now)) c.registers_read.result c.in-Some.read c.in-Some.is
    (c.registers_read.ensures known (holds.1 clean))

pub returns-clause-found : goal.returns-clause-found
returns-clause-found g c = λ known holds clean.
    c.retain_covered.ensures ∙ ap (filter (is_read_by c.args.span)) (c.in_ok-found.ensures.found known holds.0 clean)

pub returns-clause-reads : goal.returns-clause-reads
returns-clause-reads g c =
    answered_with _ _ c.in_ok-found.found _
    (asked (g.B.Books.ledger c.args.self.now.books) (g.B.Books.ledger c.registers.new.self) c.args.self.now.known c.keep_registers.new.self
    (Ok c.in_ok-found.found)
    (λ known holds clean are. c.keep_registers.ensures known (c.deref.ensures.value ∙ c.in_ok-found.ensures.found known holds clean) are)
    c.in_ok-found.ensures.reads)
