use Rattle.std.proofs.Common.{take}
use Rattle.meter_journal.specs.Lists as lists
use Rattle.meter_journal.proofs.rows.are_numbered.Given as goal

abbrev pub invariant-loop-index : goal.invariant-loop-index
invariant-loop-index l = lists.AreNumbered (lists.latest_first (take l.index l.rows))
