use Rattle.office_core.proofs.Parts.{all_rows}
use Rattle.office_core.proofs.questions.intervals.Goals as goal

pub returns-clause-rows : goal.returns-clause-rows
returns-clause-rows g c =
    let ledger = g.B.Books.ledger in
    all_rows g.K.RowSink.takes (ledger c.args.books.now) (ledger c.intervals_of_span.new.books) _ _ _ c.args.meter.now c.intervals_of_span.ensures.rows
