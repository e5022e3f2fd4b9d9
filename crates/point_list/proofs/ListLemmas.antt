-- Lemmas about collecting the faulty rows of a point list (CSV), one row at a time.
use Rattle.std.proofs.Common.{◌≡◌, ◌+◌, ◌<◌, ◌∙◌, ℕ, zero, suc, List, [], ◌∷◌, ◌++◌, Some, None, Option, length, map, take, get_or, refl, sym, ap, arith, length-append, add-one}
use Rattle.std.proofs.lemmas.List.{length-map, length-take-le, map-append, take_more}
use Rattle.point_list.specs.declared.fault.FaultyRow.{FaultyRow}
use Rattle.point_list.specs.declared.fault.RowFault.{RowFault}
use Rattle.point_list.specs.declared.point.ListedPoint.{ListedPoint}
use Rattle.point_list.specs.Lists.{faulty_rows, row_fault, row_faults, scale_fault, scale_faults}

-- If one more row of a point list (CSV) is checked, the list of faulty rows grows exactly if this
-- row has a fault.
pub faulty-push : (row : ℕ) (faults : List (Option RowFault)) (fault : Option RowFault)
    → faulty_rows row (faults ++ (fault ∷ [])) ≡ faulty_rows row faults ++ faulty_rows (row + length faults) (fault ∷ [])
faulty-push row [] fault = let same : row ≡ row + 0 = omega arith in ap (λ (r : ℕ). faulty_rows r (fault ∷ [])) same
faulty-push row (None ∷ faults) fault =
    let same : row + 1 + length faults ≡ row + suc (length faults) = omega arith in
    faulty-push (row + 1) faults fault ∙ ap (λ (r : ℕ). faulty_rows (row + 1) faults ++ faulty_rows r (fault ∷ [])) same
faulty-push row (Some f ∷ faults) fault =
    let same : row + 1 + length faults ≡ row + suc (length faults) = omega arith in
    ap (λ (rows : List FaultyRow). record { row = row; fault = f } ∷ rows)
    (faulty-push (row + 1) faults fault ∙ ap (λ (r : ℕ). faulty_rows (row + 1) faults ++ faulty_rows r (fault ∷ [])) same)

pub length-row_faults : (rows : List (List (List ℕ))) (n : ℕ) → length (row_faults rows n) ≡ n
length-row_faults rows zero = refl
length-row_faults rows (suc n) =
    let before = length-row_faults rows n in
    let both = length-append (row_faults rows n) (row_fault rows n ∷ []) in
    omega (arith, before, both)

-- The faulty rows among `n + 1` rows of a point list (CSV) are those among the first `n` rows, and
-- the last row if it has a fault.
pub row-more : (rows : List (List (List ℕ))) (n : ℕ)
    → faulty_rows 2 (row_faults rows (n + 1)) ≡ faulty_rows 2 (row_faults rows n) ++ faulty_rows (n + 2) (row_fault rows n ∷ [])
row-more rows n =
    let size : 2 + length (row_faults rows n) ≡ n + 2 = omega (arith, length-row_faults rows n) in
    ap (λ (k : ℕ). faulty_rows 2 (row_faults rows k)) (add-one n) ∙ faulty-push 2 (row_faults rows n) (row_fault rows n)
    ∙ ap (λ (r : ℕ). faulty_rows 2 (row_faults rows n) ++ faulty_rows r (row_fault rows n ∷ [])) size

-- The rows with a faulty scale among the first `n + 1` points are those among the first `n` points,
-- and the last point's row if its scale has a fault.
pub scale-more : (points : List ListedPoint) (n : ℕ) (x : ListedPoint) → n < length points → x ≡ get_or points n x
    → faulty_rows 2 (scale_faults points (take (n + 1) points))
    ≡ faulty_rows 2 (scale_faults points (take n points)) ++ faulty_rows (n + 2) (scale_fault points x x.scale ∷ [])
scale-more points n x within is =
    let f : ListedPoint → Option RowFault = λ point. scale_fault points point point.scale in
    let more : take (n + 1) points ≡ take n points ++ (x ∷ []) = take_more points n x within ∙ ap (λ (p : ListedPoint). take n points ++ (p ∷ [])) (sym is) in
    let few : length (take n points) ≡ n = length-take-le n points (omega arith) in
    let size : 2 + length (map f (take n points)) ≡ n + 2 = omega (arith, few, length-map (take n points) f) in
    ap (λ (some : List ListedPoint). faulty_rows 2 (scale_faults points some)) more
    ∙ ap (λ (faults : List (Option RowFault)). faulty_rows 2 faults) (map-append f (take n points) (x ∷ []))
    ∙ faulty-push 2 (map f (take n points)) (f x)
    ∙ ap (λ (r : ℕ). faulty_rows 2 (map f (take n points)) ++ faulty_rows r (f x ∷ [])) size
