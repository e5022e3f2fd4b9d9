-- Proof that two lists are equal if they have the same elements and are sorted by distinct keys.
use Rattle.std.proofs.Common.{◌≡◌, ℕ, ◌≤◌, ◌<◌, nat_le, Bool, true, false, not, inl, inr, List, [], ◌∷◌, ◌++◌, map, filter, reverse, length, refl, sym, ap, ap₂, subst, ◌∙◌, IsPermutation, arith}
use Rattle.std.specs.List.{AllByRecursion}
use Rattle.std.proofs.lemmas.Bool.{cases_Bool, leb-true}
use Rattle.std.proofs.lemmas.Bool.Decides.{nat_tests}
use Rattle.std.proofs.lemmas.List.Sorted.{length_permutation, All-permutation}
use Rattle.std.proofs.lemmas.List.Elements.{All-from_recursion, recursion_from_All}
use Rattle.sqlite.specs.Tree.{IsAscending}
use Rattle.sqlite_keyed.proofs.ListLemmas.{all_weaker, filter_all, filter_none, IsPermutation-filter, ascending-filter, ascending-append}

only : {X : Type 0} (x : X) (ys : List X) → IsPermutation (x ∷ []) ys → ys ≡ x ∷ []
only x [] same = absurd (omega (arith, length_permutation _ _ same))
only x (y ∷ []) same = ap (λ z. z ∷ []) (recursion_from_All (λ z. z ≡ x) (y ∷ []) (All-permutation (λ z. z ≡ x) (x ∷ []) (y ∷ []) same (All-from_recursion (λ z. z ≡ x) (x ∷ []) (refl, tt)))).0
only x (y ∷ z ∷ ys) same = absurd (omega (arith, length_permutation _ _ same))

module _ {X : Type 0} (key : X → ℕ) where
  abbrev pub Rises : List X → Type 0
  Rises = IsAscending (λ x y. key x < key y)

  abbrev pub NeverFalls : List X → Type 0
  NeverFalls = IsAscending (λ x y. key x ≤ key y)

  abbrev low : X → X → Bool
  low x z = nat_le (key z) (key x)

  abbrev high : X → X → Bool
  high x z = not (nat_le (key z) (key x))

  is_high : (x z : X) → key x < key z → low x z ≡ false
  is_high x z h = grind (arith, nat_tests)

  is_low : (x z : X) → key z ≤ key x → low x z ≡ true
  is_low x z h = grind (arith, nat_tests)

  above : (x z : X) → low x z ≡ false → key x < key z
  above x z h = grind (arith, nat_tests)

  split : (x : X) (ys : List X) → NeverFalls ys → ys ≡ filter (low x) ys ++ filter (high x) ys
  split x [] up = refl
  split x (y ∷ ys) up = elim (cases_Bool (low x y)) [
    | inl is ↦ rw is (ap (λ l. y ∷ l) (split x ys up.1))
    | inr off ↦
        let more = all_weaker _ (λ z. low x z ≡ false) (λ z le. is_high x z (let lt = above x y off in omega (arith, lt, le))) ys up.0 in
        rw (off, filter_none (low x) ys more, filter_all (high x) ys (all_weaker _ (λ z. high x z ≡ true) (λ z e. ap not e) ys more))
  ]

  pub one_order : (xs ys : List X) → Rises xs → IsPermutation xs ys → NeverFalls ys → ys ≡ xs
  one_order [] [] strict same up = refl
  one_order [] (y ∷ ys) strict same up = absurd (omega (arith, length_permutation _ _ same))
  one_order (x ∷ xs) ys strict same up =
      let off = all_weaker _ (λ z. low x z ≡ false) (λ z lt. is_high x z lt) xs strict.0 in
      let here : low x x ≡ true = is_low x x (omega arith) in
      let first : filter (low x) (x ∷ xs) ≡ x ∷ [] = rw (here, filter_none (low x) xs off) in
      let later : filter (high x) (x ∷ xs) ≡ xs = rw (here, filter_all (high x) xs (all_weaker _ (λ z. high x z ≡ true) (λ z e. ap not e) xs off)) in
      let head = only x _ (subst (λ l. IsPermutation l (filter (low x) ys)) first (IsPermutation-filter (low x) _ _ same)) in
      let tail = one_order xs _ strict.1 (subst (λ l. IsPermutation l (filter (high x) ys)) later (IsPermutation-filter (high x) _ _ same)) (ascending-filter _ (high x) ys up) in
      split x ys up ∙ ap₂ ◌++◌ head tail
