use Rattle.std.proofs.Common.{◌≡◌, take}
use Rattle.point_list.specs.Lists.{faulty_rows, scale_faults}
use Rattle.point_list.proofs.list_reader.scale_faults.Given as goal

abbrev pub invariant-loop-place : goal.invariant-loop-place
invariant-loop-place l = l.faults.items ≡ faulty_rows 2 (scale_faults l.points (take l.place l.points))
