use Rattle.std.proofs.Common.{◌≡◌, map}
use Rattle.csv.specs.Records.{fields_of}
use Rattle.point_list.specs.Lists.{faulty_rows, row_faults}
use Rattle.point_list.proofs.list_reader.faulty_rows.Given as goal

abbrev pub invariant-loop-place : goal.invariant-loop-place
invariant-loop-place l = l.faults.items ≡ faulty_rows 2 (row_faults (map fields_of l.rows) l.place)
