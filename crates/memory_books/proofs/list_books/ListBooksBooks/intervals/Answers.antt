use Rattle.office_books.specs.Intervals.{rows_of_meter}
use Rattle.memory_books.specs.Listed.{ledger_of}
use Rattle.memory_books.proofs.Handed.{handed_on}
use Rattle.memory_books.proofs.list_books.ListBooksBooks.intervals.Goals as goal

pub returns-clause-rows : goal.returns-clause-rows
returns-clause-rows g c =
    handed_on g.K.RowSink.takes c.args.span (ledger_of c.args.self.now) (ledger_of c.ready.new.self) c.args.sink.now c.intervals.new.sink
    (λ known. rows_of_meter known c.args.meter.now)
    (λ known listed. c.intervals.ensures.whole known listed.lawful (c.in_ok-ready.ensures.whole known listed)) c.intervals.ensures.some
