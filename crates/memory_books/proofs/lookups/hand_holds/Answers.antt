use Rattle.memory_books.proofs.Holding.{holds_more}
use Rattle.memory_books.proofs.lookups.hand_holds.Goals as goal

pub loop-fact-preserved : goal.loop-fact-preserved
loop-fact-preserved g c =
    holds_more c.args.span c.args.meter.now g.K.RowSink.takes c.args.sink.now c.loop-fact.sink c.hand_hold.new.sink c.args.facts.now c.loop-fact.fact-index c.fact-item.result
    c.loop-fact-test.true c.fact-item.is c.loop-fact.invariant c.hand_hold.ensures
