use Rattle.std.proofs.Common.{◌≡◌, List, [], length, map, ap, arith, subst, sym}
use Rattle.std.proofs.lemmas.List.{length-map}
use Rattle.csv.specs.Records.{fields_of}
use Rattle.point_list.specs.declared.point.ListedPoint.{ListedPoint}
use Rattle.point_list.specs.Lists.{faulty_rows, points_of, scale_faults}
use Rattle.point_list.specs.Points.{IsPointList}
use Rattle.point_list.proofs.FaultlessLists.{below-list, faultless-few, faultless-lawful, no-items, none-below}
use Rattle.point_list.proofs.list_reader.list_below.Goals as goal

pub list_of_points-requires : goal.list_of_points-requires
list_of_points-requires c =
    let rows = map fields_of c.args.rows.now in
    let empty = no-items c.in_ok-faults.faults.len c.in_ok-faults.faults.items c.is_empty.result c.in_ok-faults.faults.ok.0 c.is_empty.ensures c.if-not-is_empty.false in
    let none = none-below rows (length c.args.rows.now) c.in_ok-faults.faults.items (length-map c.args.rows.now fields_of) c.in_ok-faults.ensures empty in
    let is : points_of rows ≡ c.in_ok-points.points.items = sym c.in_ok-points.ensures in
    record {
      few = let few = faultless-few rows none in omega (arith, few, ap length is);
      lawful = subst (λ (points : List ListedPoint). faulty_rows 2 (scale_faults points points) ≡ [] → IsPointList points) is (faultless-lawful rows none);
    }

pub returns : goal.returns
returns c =
    let rows = map fields_of c.args.rows.now in
    let empty = no-items c.in_ok-faults.faults.len c.in_ok-faults.faults.items c.is_empty.result c.in_ok-faults.faults.ok.0 c.is_empty.ensures c.if-not-is_empty.false in
    let both = below-list rows (length c.args.rows.now) c.in_ok-faults.faults.items c.in_ok-points.points.items c.list_of_points.result (length-map c.args.rows.now fields_of) c.in_ok-faults.ensures empty
    c.in_ok-points.ensures c.list_of_points.ensures.list c.list_of_points.ensures.faults in
    record { list = both.0; faults = both.1 }
