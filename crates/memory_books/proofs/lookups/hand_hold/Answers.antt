use Rattle.std.proofs.Common.{sym}
use Rattle.memory_books.proofs.Holding.{hold_taken, hold_left, none_left}
use Rattle.memory_books.proofs.lookups.hand_hold.Goals as goal

pub returns-then-is_asked : goal.returns-then-is_asked
returns-then-is_asked g c =
    hold_taken c.args.span c.args.meter.now g.K.RowSink.takes c.args.sink.now c.put.new.self c.args.fact.now c.in-Some.held (sym c.in-Some.ensures)
    (sym c.if-is_asked.ensures) c.put.ensures

pub returns-else-is_asked : goal.returns-else-is_asked
returns-else-is_asked g c =
    hold_left c.args.span c.args.meter.now g.K.RowSink.takes c.args.sink.now c.args.fact.now c.in-Some.held (sym c.in-Some.ensures) (sym c.if-is_asked.ensures)

pub returns-in-None : goal.returns-in-None
returns-in-None g c = none_left c.args.span c.args.meter.now g.K.RowSink.takes c.args.sink.now c.args.fact.now (sym c.in-None.ensures)
