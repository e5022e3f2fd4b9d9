use Rattle.std.proofs.Common.{sym}
use Rattle.memory_books.proofs.TablesLemmas.Spans.{took_one, left_one}
use Rattle.memory_books.proofs.tables.interval_rows.write_within.Goals as goal

pub returns-then-contains : goal.returns-then-contains
returns-then-contains g c =
    took_one g.K.RowSink.takes c.args.span c.args.sink.now c.put.new.self c.args.row (sym c.if-contains.ensures) c.put.ensures

pub returns-else-contains : goal.returns-else-contains
returns-else-contains g c = left_one g.K.RowSink.takes c.args.span c.args.sink.now c.args.row (sym c.if-contains.ensures)
