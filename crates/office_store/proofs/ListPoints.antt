-- Proofs about inserting the points of a device's point list into the table `points`, one after
-- another.
use Rattle.std.proofs.Common.{◌≡◌, ℕ, ◌+◌, ◌<◌, List, [], ◌∷◌, ◌++◌, map, take, length, get_or, refl, sym, ap, ap₂, ◌∙◌, arith}
use Rattle.std.proofs.lemmas.List.{map-append, take_more, length-take}
use Rattle.point_list.specs.declared.point.ListedPoint.{ListedPoint}
use Rattle.store_tables.specs.declared.devices.rows.Point.{Point}
use Rattle.store_tables.specs.Devices.Rows.{Listed, listed_at}
use Rattle.office_store.specs.Rows.{placed_on, listed}

-- If an element is appended to a list, the list's numbered rows get one more row with the next
-- index, and their earlier rows stay unchanged.
pub placed_last : {X Y : Type 0} (row : ℕ → X → Y) (before : ℕ) (xs : List X) (x : X) → placed_on row before (xs ++ x ∷ []) ≡ placed_on row before xs ++ row (before + length xs + 1) x ∷ []
placed_last row before [] x = ap (λ n. row n x ∷ []) (omega arith)
placed_last row before (y ∷ xs) x =
    ap (λ ys. row (before + 1) y ∷ ys) (placed_last row (before + 1) xs x
    ∙ ap (λ n. placed_on row (before + 1) xs ++ row n x ∷ []) (omega arith))

pub one_more : (device : List ℕ) (points : List ListedPoint) (i : ℕ) (x : ListedPoint) (rows after : List Point) (p : Point) → i < length points → x ≡ get_or points i x
    → map (listed_at device) rows ≡ placed_on (listed device) 0 (take i points) → after ≡ rows ++ p ∷ [] → listed_at device p ≡ listed device (i + 1) x
    → map (listed_at device) after ≡ placed_on (listed device) 0 (take (i + 1) points)
one_more device points i x rows after p lt is before pushed shown =
    let more : take (i + 1) points ≡ take i points ++ x ∷ [] = take_more points i x lt ∙ ap (λ (q : ListedPoint). take i points ++ (q ∷ [])) (sym is) in
    let count : 0 + length (take i points) + 1 ≡ i + 1 = omega (arith, length-take i points, lt) in
    ap (map (listed_at device)) pushed ∙ map-append (listed_at device) rows (p ∷ [])
    ∙ ap₂ (λ (a b : List Listed). a ++ b) before (ap (λ (l : Listed). l ∷ []) (shown ∙ ap (λ n. listed device n x) (sym count)))
    ∙ sym (ap (placed_on (listed device) 0) more ∙ placed_last (listed device) 0 (take i points) x)
