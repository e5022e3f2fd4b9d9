-- Lemmas that listing one more row of a SunSpec model's table appends the row's point to the listed
-- points, if the point was read.
use Rattle.std.proofs.Common.{◌≡◌, ℕ, ◌+◌, ◌<◌, Option, Some, None, List, [], ◌∷◌, ◌++◌, length, get_or, take, map, filter_map, option_map, option_to_list, refl, sym, ◌∙◌, ap}
use Rattle.std.proofs.lemmas.List.{take_more, map-append}
use Rattle.std.proofs.lemmas.List.Elements.{filter_map-append}
use Rattle.sun_chain.specs.Image.{Words}
use Rattle.sun_chain.specs.Points.{Named, point_in, seen}
use Rattle.sun_chain.specs.Tables.{Row, row_of}
use Rattle.sun_chain.specs.declared.model.Model.{Model}
use Rattle.sun_chain.specs.declared.named_point.NamedPoint.{NamedPoint}
use Rattle.sun_chain.specs.declared.tables.Entry.{Entry}

one_row : (f : Row → Option Named) (row : Row) (found : Option NamedPoint) → option_map seen found ≡ f row →
    filter_map f (row ∷ []) ≡ map seen (option_to_list found)
one_row f row None is = rw (sym is) refl
one_row f row (Some point) is = rw (sym is) refl

-- Listing one more row of a model's table appends the row's point, if the point was read.
pub rows_more : (word : Words) (model : Model) (entries : List Entry) (i : ℕ) (d : Entry) (found : Option NamedPoint) (before after : List NamedPoint) →
    i < length entries → map seen before ≡ filter_map (point_in word model) (map row_of (take i entries)) →
    option_map seen found ≡ point_in word model (row_of (get_or entries i d)) → after ≡ before ++ option_to_list found →
    map seen after ≡ filter_map (point_in word model) (map row_of (take (i + 1) entries))
rows_more word model entries i d found before after in_range so_far point more =
    let row : Row = row_of (get_or entries i d) in
    let rows : map row_of (take (i + 1) entries) ≡ map row_of (take i entries) ++ row ∷ [] =
    ap (λ (es : List Entry). map row_of es) (take_more entries i d in_range)
    ∙ map-append row_of (take i entries) (get_or entries i d ∷ []) in
    ap (λ (ps : List NamedPoint). map seen ps) more
    ∙ map-append seen before (option_to_list found)
    ∙ ap (λ (front : List Named). front ++ map seen (option_to_list found)) so_far
    ∙ ap (λ (last : List Named). filter_map (point_in word model) (map row_of (take i entries)) ++ last) (sym (one_row (point_in word model) row found point))
    ∙ sym (filter_map-append (point_in word model) (map row_of (take i entries)) (row ∷ []))
    ∙ ap (λ (rs : List Row). filter_map (point_in word model) rs) (sym rows)
