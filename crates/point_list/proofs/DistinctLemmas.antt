-- Lemmas for the check, one point at a time, that the points in a list have distinct names.
use Rattle.std.proofs.Common.{◌≡◌, ◌≢◌, ◌∙◌, ℕ, ◌+◌, ◌<◌, List, [], ◌∷◌, ◌++◌, length, get_or, take, sym, ap, arith}
use Rattle.std.specs.List.{All, AllPairs}
use Rattle.std.proofs.lemmas.List.{get_or-take, get_or_default, length-take-le, take_more}
use Rattle.std.proofs.lemmas.List.Quantifiers.{all_pairs_push}
use Rattle.point_list.specs.declared.point.ListedPoint.{ListedPoint}

-- Suppose that a point is appended to a list of points with distinct names. If no point of the list
-- has the name of the new point, the names stay distinct.
pub distinct-more : (points : List ListedPoint) (i : ℕ) (x : ListedPoint) → i < length points → x ≡ get_or points i x
    → AllPairs (λ a b. a.name ≢ b.name) (take i points) → All (λ p. p.name ≢ x.name) (take i points) → AllPairs (λ a b. a.name ≢ b.name) (take (i + 1) points)
distinct-more points i x within is pairs other =
    let more : take (i + 1) points ≡ take i points ++ (x ∷ []) = take_more points i x within ∙ ap (λ (p : ListedPoint). take i points ++ (p ∷ [])) (sym is) in
    rw more (all_pairs_push (λ a b. a.name ≢ b.name) (take i points) x pairs (λ k d below. other k d below))

-- If the names of the points in a list are distinct, then each point before a given point has
-- another name than the given point.
pub distinct-earlier : (points : List ListedPoint) (i : ℕ) (x : ListedPoint) → i < length points → x ≡ get_or points i x
    → AllPairs (λ a b. a.name ≢ b.name) points → All (λ p. p.name ≢ x.name) (take i points)
distinct-earlier points i x within is pairs k d below =
    let size = length-take-le i points (omega (arith, within)) in
    let low : k < i = omega (arith, below, size) in
    let here : get_or points i d ≡ x = get_or_default points i d x within ∙ sym is in
    rw (get_or-take i points k d low) (λ e. pairs k i d low within (e ∙ ap (λ (p : ListedPoint). p.name) (sym here)))
