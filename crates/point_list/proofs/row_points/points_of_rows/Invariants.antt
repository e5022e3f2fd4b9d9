use Rattle.std.proofs.Common.{◌≡◌, map, take}
use Rattle.csv.specs.Records.{fields_of}
use Rattle.point_list.specs.Lists.{points_of}
use Rattle.point_list.proofs.row_points.points_of_rows.Given as goal

abbrev pub invariant-loop-row : goal.invariant-loop-row
invariant-loop-row l = l.points.items ≡ points_of (map fields_of (take l.row-index l.rows))
