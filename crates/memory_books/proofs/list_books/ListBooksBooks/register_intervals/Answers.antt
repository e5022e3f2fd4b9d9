use Rattle.std.proofs.Common.{◌∙◌, ap}
use Rattle.office_books.specs.Intervals.{rows_of_register}
use Rattle.memory_books.specs.Listed.{ledger_of}
use Rattle.memory_books.proofs.Handed.{handed_on}
use Rattle.memory_books.proofs.list_books.ListBooksBooks.register_intervals.Goals as goal

pub returns-clause-rows : goal.returns-clause-rows
returns-clause-rows g c =
    handed_on g.K.RowSink.takes c.args.span (ledger_of c.args.self.now) (ledger_of c.ready.new.self) c.args.sink.now c.register_intervals.new.sink
    (λ known. rows_of_register known c.args.register.now)
    (λ known listed.
    c.register_intervals.ensures.whole known (c.deref.ensures.value ∙ ap (λ v. v.items) c.ready.ensures.facts ∙ listed.facts) listed.lawful
    (c.in_ok-ready.ensures.whole known listed))
    c.register_intervals.ensures.some
