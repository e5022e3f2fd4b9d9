use Rattle.std.proofs.Common.{◌≡◌, ◌≤◌, ◌∷◌, map, take}
use Rattle.std.specs.List.{All}
use Rattle.csv.specs.Records.{fields_of}
use Rattle.point_list.specs.RowTexts.{header_row, row_of}
use Rattle.point_list.proofs.row_texts.point_rows.Given as goal

abbrev pub invariant-loop-point : goal.invariant-loop-point
invariant-loop-point l = record {
  rows : map fields_of l.rows.items ≡ header_row ∷ map row_of (take l.point-index l.points);
  areas : All (λ point. point.area ≤ 255) (take l.point-index l.points);
}
