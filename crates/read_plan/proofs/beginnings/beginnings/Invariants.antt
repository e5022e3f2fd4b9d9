use Rattle.std.proofs.Common.{take}
use Rattle.read_plan.specs.Beginnings.{AreBeginnings}
use Rattle.read_plan.proofs.beginnings.beginnings.Given as goal

abbrev pub invariant-loop-item : goal.invariant-loop-item
invariant-loop-item l = AreBeginnings (take l.item-index l.items) l.found.items
