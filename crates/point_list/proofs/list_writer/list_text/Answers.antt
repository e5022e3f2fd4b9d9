use Rattle.std.proofs.Common.{◌≡◌, ◌∙◌, ◌≤◌, ◌∷◌, List, map, ap, subst}
use Rattle.std.specs.List.{All}
use Rattle.csv.specs.Records.{Row, fields_of}
use Rattle.point_list.specs.declared.point.ListedPoint.{ListedPoint}
use Rattle.point_list.specs.RowTexts.{header_row, row_of}
use Rattle.point_list.proofs.WrittenLists.{exact-text, on-ok, written-list}
use Rattle.point_list.proofs.list_writer.list_text.Goals as goal

pub returns-clause-exact : goal.returns-clause-exact
returns-clause-exact c =
    let rows : map fields_of c.deref.result.now ≡ header_row ∷ map row_of c.args.list.now =
    ap (λ (rows : List Row). map fields_of rows) c.deref.ensures.value ∙ c.in_ok-rows.ensures.rows
    ∙ ap (λ (points : List ListedPoint). header_row ∷ map row_of points) c.points.ensures.points in
    exact-text c.args.list.now (map fields_of c.deref.result.now) (λ text. text.items) c.text_of_rows.result rows c.text_of_rows.ensures

pub returns-clause-spelled : goal.returns-clause-spelled
returns-clause-spelled c =
    let areas : All (λ point. point.area ≤ 255) c.args.list.now = subst (λ (points : List ListedPoint). All (λ point. point.area ≤ 255) points) c.points.ensures.points c.in_ok-rows.ensures.areas in
    on-ok _ c.text_of_rows.result (written-list c.args.list.now c.points.ensures.lawful areas)
