use Rattle.std.proofs.Common.{◌≡◌, List, reverse, take}
use Rattle.office_books.specs.Rows.{TakesAll}
use Rattle.office_events.specs.declared.facts.Fact.{Fact}
use Rattle.office_books.specs.Lawful.{AreLawful}
use Rattle.memory_books.specs.Tables.IntervalRows.{TakesSome, rows_at, TakesWithin}
use Rattle.memory_books.specs.Tables.Whole.{AreWhole}
use Rattle.memory_books.proofs.tables.tables.Tables.hand_on_all.Given as goal

abbrev pub invariant-loop-place : goal.invariant-loop-place
invariant-loop-place g l = record {
  whole : (known : List Fact) → l.facts ≡ reverse known → AreLawful known → AreWhole l.self known
      → TakesAll (TakesWithin g.K.RowSink.takes l.span) l.fn.sink (rows_at known l.facts (take l.place-index l.places)) l.sink;
  some : TakesSome (TakesWithin g.K.RowSink.takes l.span) l.fn.sink l.sink;
}
