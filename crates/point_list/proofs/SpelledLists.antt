-- Proves that a CSV text encodes at most one point list.
use Rattle.std.proofs.Common.{◌≡◌, ◌∙◌, ℕ, Bool, true, false, Some, Option, List, [], ◌∷◌, length, map, drop, refl, sym, ap, subst}
use Rattle.std.proofs.lemmas.Option.{same_Some}
use Rattle.std.specs.Prelude.{slice_index_or}
use Rattle.point_list.specs.declared.point.ListedPoint.{ListedPoint}
use Rattle.point_list.specs.Laws.{FaultlessTextsSpell, SpelledListIsOne, SpelledListsAreLawful}
use Rattle.point_list.specs.Lists.{SpellsList, faults_below, faulty_rows, is_header, list_faults, points_of, row_faults, rows_read, scale_faults}
use Rattle.point_list.specs.Points.{IsPointList}
use Rattle.point_list.proofs.FaultlessLists.{faultless-each, faultless-lawful, none-reported}
use Rattle.point_list.proofs.TextLemmas.{first-nil, second-nil, spells-list}

-- The point list that a CSV text without faulty rows encodes. The list is valid.
record Spelled (text : List ℕ) : Type 0 where
  points : List ListedPoint
  spells : SpellsList text points
  lawful : IsPointList points

below : (text : List ℕ) (header : List (List ℕ)) (rows : List (List (List ℕ))) → header ∷ rows ≡ rows_read text → is_header header ≡ true → faults_below rows ≡ [] → Spelled text
below text header rows read headed none =
    let first : faulty_rows 2 (row_faults rows (length rows)) ≡ [] = first-nil (faulty_rows 2 (row_faults rows (length rows))) (faulty_rows 2 (scale_faults (points_of rows) (points_of rows))) none in
    let quiet = none-reported rows (length rows) first in
    record {
      points = points_of rows;
      spells = spells-list text header rows (points_of rows) read headed none (faultless-each rows quiet);
      lawful = faultless-lawful rows quiet (second-nil (faulty_rows 2 (row_faults rows (length rows))) (faulty_rows 2 (scale_faults (points_of rows) (points_of rows))) first none);
    }

faultless-rows : (text : List ℕ) (rows : List (List (List ℕ))) → rows ≡ rows_read text → list_faults rows ≡ [] → Spelled text
faultless-rows text [] read none = absurd (cc none)
faultless-rows text (header ∷ rows) read none = by (is_header header) refl
  where
    by : (b : Bool) → is_header header ≡ b → Spelled text
    by true e = below text header rows read e (rw e at none)
    by false e = absurd (cc (rw e at none))

some-same : (points others : List ListedPoint) → map (λ p. Some p) points ≡ map (λ p. Some p) others → points ≡ others
some-same [] [] h = refl
some-same [] (q ∷ qs) h = absurd (cc h)
some-same (p ∷ ps) [] h = absurd (cc h)
some-same (p ∷ ps) (q ∷ qs) h =
    let first : p ≡ q = same_Some _ _ (ap (λ (found : List (Option ListedPoint)). slice_index_or found 0 (Some p)) h) in
    let rest = some-same ps qs (ap (λ (found : List (Option ListedPoint)). drop 1 found) h) in
    ap (λ (x : ListedPoint). x ∷ ps) first ∙ ap (λ (more : List ListedPoint). q ∷ more) rest

pub faultless-spell : FaultlessTextsSpell
faultless-spell text none = let s = faultless-rows text (rows_read text) refl none in (s.points, s.spells)

pub spelled-one : SpelledListIsOne
spelled-one text points others a b = some-same points others (sym a.each ∙ b.each)

pub spelled-lawful : SpelledListsAreLawful
spelled-lawful text points a =
    let s = faultless-rows text (rows_read text) refl a.faultless in
    subst IsPointList (spelled-one text s.points points s.spells a) s.lawful
