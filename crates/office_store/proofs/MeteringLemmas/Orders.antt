-- Proof that two sorted lists are equal if they have the same distinct elements.
use Rattle.std.proofs.Common.{◌≡◌, Bool, true, false, not, List, [], ◌∷◌, ◌++◌, filter, refl, ap, ap₂, subst, ◌∙◌, arith, IsPermutation}
use Rattle.std.specs.List.{AllByRecursion}
use Rattle.std.proofs.lemmas.List.Elements.{recursion_from_All, All-from_recursion}
use Rattle.std.proofs.lemmas.List.Sorted.{length_permutation, All-permutation}
use Rattle.sqlite.specs.Tree.{IsAscending}
use Rattle.sqlite_keyed.proofs.ListLemmas.{all_weaker, filter_all, filter_none, IsPermutation-filter, ascending-filter}

one : {X : Type 0} (x : X) (ys : List X) → IsPermutation (x ∷ []) ys → ys ≡ x ∷ []
one x [] same = absurd (omega (arith, length_permutation _ _ same))
one x (y ∷ []) same = ap (λ z. z ∷ []) (recursion_from_All (λ z. z ≡ x) (y ∷ []) (All-permutation (λ z. z ≡ x) (x ∷ []) (y ∷ []) same (All-from_recursion (λ z. z ≡ x) (x ∷ []) (refl, tt)))).0
one x (y ∷ z ∷ ys) same = absurd (omega (arith, length_permutation _ _ same))

module _ {X : Type 0} (above : X → X → Bool) (AtMost : X → X → Type 0) (itself : (x : X) → above x x ≡ false) (still : (x y z : X) → above x y ≡ true → AtMost y z → above x z ≡ true) where
  split_step : (x y : X) (ys : List X) (b : Bool) → above x y ≡ b → AllByRecursion (AtMost y) ys → ys ≡ filter (λ z. not (above x z)) ys ++ filter (above x) ys
      → y ∷ ys ≡ filter (λ z. not (above x z)) (y ∷ ys) ++ filter (above x) (y ∷ ys)
  split_step x y ys false e up more = rw e (ap (λ l. y ∷ l) more)
  split_step x y ys true e up more =
      let all = all_weaker _ (λ z. above x z ≡ true) (λ z. still x y z e) ys up in
      rw (e, filter_none _ ys (all_weaker _ (λ z. not (above x z) ≡ false) (λ z h. ap not h) ys all), filter_all _ ys all)

  -- If a list of numbers is sorted in ascending order, it consists of the elements up to `x`,
  -- followed by the elements above `x`.
  split : (x : X) (ys : List X) → IsAscending AtMost ys → ys ≡ filter (λ z. not (above x z)) ys ++ filter (above x) ys
  split x [] up = refl
  split x (y ∷ ys) up = split_step x y ys (above x y) refl up.0 (split x ys up.1)

  pub one_order : (xs ys : List X) → IsAscending (λ a b. above a b ≡ true) xs → IsPermutation xs ys → IsAscending AtMost ys → ys ≡ xs
  one_order [] [] strict same up = refl
  one_order [] (y ∷ ys) strict same up = absurd (omega (arith, length_permutation _ _ same))
  one_order (x ∷ xs) ys strict same up =
      let here : above x x ≡ false = itself x in
      let first : filter (λ z. not (above x z)) (x ∷ xs) ≡ x ∷ [] =
      rw (here, filter_none _ xs (all_weaker _ (λ z. not (above x z) ≡ false) (λ z h. ap not h) xs strict.0)) in
      let later : filter (above x) (x ∷ xs) ≡ xs = rw (here, filter_all _ xs strict.0) in
      let head = one x _ (subst (λ l. IsPermutation l (filter (λ z. not (above x z)) ys)) first (IsPermutation-filter (λ z. not (above x z)) _ _ same)) in
      let tail = one_order xs _ strict.1 (subst (λ l. IsPermutation l (filter (above x) ys)) later (IsPermutation-filter (above x) _ _ same)) (ascending-filter AtMost _ ys up) in
      split x ys up ∙ ap₂ ◌++◌ head tail
