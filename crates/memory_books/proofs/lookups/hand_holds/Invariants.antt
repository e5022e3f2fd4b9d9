use Rattle.std.proofs.Common.{reverse, take}
use Rattle.office_books.specs.Holds.{holds_of, holds_within}
use Rattle.office_books.specs.Rows.{TakesAll}
use Rattle.memory_books.proofs.lookups.hand_holds.Given as goal

abbrev pub invariant-loop-fact : goal.invariant-loop-fact
invariant-loop-fact g l =
    TakesAll g.K.RowSink.takes l.fn.sink (holds_within l.span (holds_of (reverse (take l.fact-index l.facts)) l.meter)) l.sink
