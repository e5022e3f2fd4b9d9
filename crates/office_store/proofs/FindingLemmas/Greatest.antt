-- Proofs about the greatest timestamp of a list: no element has a later timestamp, and the order of
-- the elements does not matter.
use Rattle.std.proofs.Common.{◌≡◌, ℕ, ◌+◌, ◌≤◌, max, List, [], ◌∷◌, map, filter, length, Option, Some, None, unwrap_or, refl, sym, ap, ap₂, subst, ◌∙◌, IsPermutation, arith}
use Rattle.std.specs.List.{AllByRecursion}
use Rattle.std.proofs.lemmas.List.Sorted.{IsPermutation-sym, All-permutation}
use Rattle.std.proofs.lemmas.List.Elements.{All-from_recursion, recursion_from_All}
use Rattle.store_tables.specs.Answer.{IsLast, every}
use Rattle.office_store.specs.Rows.{placed}
use Rattle.office_store.proofs.Placed.{all_every}
use Rattle.office_store.specs.Finding.Latest.{greatest}

pub permuted : {X : Type 0} (P : X → Type 0) (xs ys : List X) → IsPermutation xs ys → AllByRecursion P xs → AllByRecursion P ys
permuted P xs ys same h = recursion_from_All P ys (All-permutation P xs ys same (All-from_recursion P xs h))

module _ {X : Type 0} (moment : X → ℕ) where
  pub none_past : (xs : List X) (n : ℕ) → greatest moment xs ≤ n → AllByRecursion (λ x. moment x ≤ n) xs
  none_past [] n h = tt
  none_past (x ∷ xs) n h = (omega (arith, h), none_past xs n (omega (arith, h)))

  pub at_most : (xs : List X) (n : ℕ) → AllByRecursion (λ x. moment x ≤ n) xs → greatest moment xs ≤ n
  at_most [] n h = omega arith
  at_most (x ∷ xs) n h = let first = h.0 in let rest = at_most xs n h.1 in omega (arith, first, rest)

  pub below : (xs : List X) → AllByRecursion (λ x. moment x ≤ greatest moment xs) xs
  below xs = none_past xs (greatest moment xs) (omega arith)

  -- The query for the row with the greatest timestamp returns this timestamp, or None if the table
  -- has no row.
  pub last_greatest : (xs : List X) (found : Option ℕ) → IsLast every (λ x n. n ≡ moment x) moment xs found → unwrap_or found 0 ≡ greatest moment xs
  last_greatest xs None h = ap (greatest moment) (sym (sym (all_every xs) ∙ h))
  last_greatest xs (Some n) h =
      let is = h.1 in
      let same : IsPermutation xs (h.0 ∷ h.2) = subst (λ l. IsPermutation l (h.0 ∷ h.2)) (all_every xs) h.3 in
      let most = at_most xs (moment h.0) (permuted (λ x. moment x ≤ moment h.0) (h.0 ∷ h.2) xs (IsPermutation-sym _ _ same) (omega arith, h.4)) in
      let has = permuted (λ x. moment x ≤ greatest moment xs) xs (h.0 ∷ h.2) same (below xs) in
      omega (arith, is, most, has.0)

pub greatest_map : {X Y : Type 0} (f : X → Y) (moment : Y → ℕ) (xs : List X) → greatest moment (map f xs) ≡ greatest (λ x. moment (f x)) xs
greatest_map f moment [] = refl
greatest_map f moment (x ∷ xs) = ap (max (moment (f x))) (greatest_map f moment xs)

pub greatest_placed : {X Y : Type 0} (row : ℕ → X → Y) (moment : Y → ℕ) (own : X → ℕ) → ((place : ℕ) (x : X) → moment (row place x) ≡ own x)
    → (xs : List X) → greatest moment (placed row xs) ≡ greatest own xs
greatest_placed row moment own is [] = refl
greatest_placed row moment own is (x ∷ xs) = ap₂ max (is (length xs + 1) x) (greatest_placed row moment own is xs)
