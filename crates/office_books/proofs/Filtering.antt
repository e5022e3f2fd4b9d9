-- Lemmas about a loop that filters a list by a predicate. After `i` steps, the loop has the
-- elements that satisfy the predicate among the first `i`.
use Rattle.std.proofs.Common.{◌≡◌, ◌+◌, ◌<◌, ℕ, Bool, true, false, cond, List, [], ◌∷◌, ◌++◌, take, length, get_or, sym, ap, ◌∙◌}
use Rattle.std.specs.List.{filter}
use Rattle.std.proofs.lemmas.Bool.{cond-true, cond-false}
use Rattle.std.proofs.lemmas.List.{append-nil, take_more}
use Rattle.std.proofs.lemmas.List.Elements.{filter-append}

-- The filtered first `i + 1` elements are the filtered first `i` elements, followed by element `i`
-- if it satisfies the filter's predicate.
one_more : {X : Type 0} (p : X → Bool) (xs : List X) (i : ℕ) (x : X) → i < length xs → x ≡ get_or xs i x
    → filter p (take (i + 1) xs) ≡ filter p (take i xs) ++ cond (p x) (x ∷ []) []
one_more p xs i x less is =
    ap (filter p) (take_more xs i x less ∙ ap (λ y. take i xs ++ y ∷ []) (sym is)) ∙ filter-append p (take i xs) (x ∷ [])

-- If the next element satisfies the predicate of a filter, the filter's loop appends the element to
-- the result.
pub taken : {X : Type 0} (p : X → Bool) (xs : List X) (i : ℕ) (x : X) (ys more : List X) → i < length xs → x ≡ get_or xs i x → p x ≡ true
    → ys ≡ filter p (take i xs) → more ≡ ys ++ x ∷ [] → more ≡ filter p (take (i + 1) xs)
taken p xs i x ys more less is passes so_far came =
    let one : cond (p x) (x ∷ []) [] ≡ x ∷ [] = cond-true _ _ _ passes in
    came ∙ ap (λ zs. zs ++ x ∷ []) so_far ∙ ap (λ zs. filter p (take i xs) ++ zs) (sym one) ∙ sym (one_more p xs i x less is)

-- If the next element does not satisfy the predicate of a filter, the filter's loop leaves the
-- result unchanged.
pub passed_by : {X : Type 0} (p : X → Bool) (xs : List X) (i : ℕ) (x : X) (ys more : List X) → i < length xs → x ≡ get_or xs i x → p x ≡ false
    → ys ≡ filter p (take i xs) → more ≡ ys → more ≡ filter p (take (i + 1) xs)
passed_by p xs i x ys more less is fails so_far stays =
    let none : cond (p x) (x ∷ []) [] ≡ [] = cond-false _ _ _ fails in
    stays ∙ so_far ∙ sym (append-nil (filter p (take i xs))) ∙ ap (λ zs. filter p (take i xs) ++ zs) (sym none) ∙ sym (one_more p xs i x less is)
