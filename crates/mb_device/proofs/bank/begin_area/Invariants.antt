use Rattle.std.proofs.Common.{◌≡◌, Some, replicate}
use Rattle.std.proofs.Math.Seq.{paste}
use Rattle.mb_device.proofs.bank.begin_area.Given as goal

abbrev pub invariant-loop-place : goal.invariant-loop-place
invariant-loop-place l = l.table.items ≡ paste l.fn.table.items l.start (replicate l.place (Some 0)) l.place
