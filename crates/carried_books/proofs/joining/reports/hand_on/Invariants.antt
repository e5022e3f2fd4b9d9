use Rattle.std.proofs.Common.{take}
use Rattle.office_books.specs.Rows.{TakesAll}
use Rattle.carried_books.proofs.joining.reports.hand_on.Given as goal

abbrev pub invariant-loop-day : goal.invariant-loop-day
invariant-loop-day g l = TakesAll g.K.RowSink.takes l.initial.sink (take l.day-index l.days) l.sink
