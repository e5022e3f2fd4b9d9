use Rattle.std.proofs.Common.{take}
use Rattle.std.specs.List.{AllZip}
use Rattle.read_plan.specs.Beginnings.{ReadsFrom}
use Rattle.read_plan.proofs.reads.reads_from.Given as goal

abbrev pub invariant-loop-begin : goal.invariant-loop-begin
invariant-loop-begin l = AllZip (ReadsFrom l.items) (take l.begin-index l.begins) l.reads.items
