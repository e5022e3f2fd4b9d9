use Rattle.std.proofs.Common.{◌≡◌, ◌≤◌, ◌+◌, ◌∙◌, ◌∷◌, ◌++◌, [], ℕ, List, map, take, ap, sym, subst}
use Rattle.std.specs.List.{All}
use Rattle.std.proofs.lemmas.List.{map-append, take_more}
use Rattle.std.proofs.lemmas.List.Elements.{All-append, All-cons, All-nil}
use Rattle.csv.specs.Records.{Row, fields_of}
use Rattle.point_list.specs.declared.point.ListedPoint.{ListedPoint}
use Rattle.point_list.specs.RowTexts.{header_row, row_of}
use Rattle.point_list.proofs.row_texts.point_rows.Goals as goal

pub loop-point-preserved : goal.loop-point-preserved
loop-point-preserved c =
    let points = c.args.points.now in
    let i = c.loop-point.point-index in
    let x = c.point-item.result in
    let more : take (i + 1) points ≡ take i points ++ (x ∷ []) = take_more points i x c.loop-point-test.true ∙ ap (λ (p : ListedPoint). take i points ++ (p ∷ [])) (sym c.point-item.is) in
    let inv = c.loop-point.invariant in
    let pushed : c.push-in-loop-point.new.self.items ≡ c.loop-point.rows.items ++ (c.in_ok-point_row.field-0 ∷ []) = c.in_ok-push-2.ensures.items in
    record {
      rows =
          ap (λ (rows : List Row). map fields_of rows) pushed ∙ map-append fields_of c.loop-point.rows.items (c.in_ok-point_row.field-0 ∷ [])
          ∙ ap (λ (before : List (List (List ℕ))). before ++ (fields_of c.in_ok-point_row.field-0 ∷ [])) inv.rows
          ∙ ap (λ (fields : List (List ℕ)). (header_row ∷ map row_of (take i points)) ++ (fields ∷ [])) c.in_ok-point_row.ensures.fields
          ∙ ap (λ (all : List (List (List ℕ))). header_row ∷ all) (sym (map-append row_of (take i points) (x ∷ [])))
          ∙ ap (λ (some : List ListedPoint). header_row ∷ map row_of some) (sym more);
      areas =
          subst (λ (some : List ListedPoint). All (λ point. point.area ≤ 255) some) (sym more)
          (All-append (λ point. point.area ≤ 255) (take i points) (x ∷ []) inv.areas
          (All-cons (λ point. point.area ≤ 255) x [] c.in_ok-point_row.ensures.area (All-nil (λ point. point.area ≤ 255))));
    }
