-- Proofs about lists whose rows are numbered from 1: the greatest index is the length of the list.
use Rattle.std.proofs.Common.{◌≡◌, ℕ, ◌+◌, ◌≤◌, zero, suc, List, [], ◌∷◌, map, length, Bool, true, false, cond, Option, Some, None, refl, sym, ap, ap₂, subst, ◌∙◌, arith, filter, IsPermutation}
use Rattle.std.specs.List.{AllByRecursion}
use Rattle.std.proofs.lemmas.List.Sorted.{IsPermutation-sym, IsPermutation-trans, length_permutation, All-permutation}
use Rattle.std.proofs.lemmas.List.Elements.{All-from_recursion, recursion_from_All}
use Rattle.sqlite_keyed.proofs.ListLemmas.{filter_all, all_of, IsPermutation-same}
use Rattle.store_tables.specs.Answer.{IsLast, every}
use Rattle.store_tables.specs.Content.{changed_where}
use Rattle.office_store.specs.Rows.{placed}
use Rattle.office_store.specs.Recording.{next_place}

pub all_every : {X : Type 0} (xs : List X) → filter every xs ≡ xs
all_every xs = filter_all every xs (all_of (λ x. every x ≡ true) (λ x. refl) xs)

-- If the row `first` has the greatest key of all rows that pass a test, the index of the next row
-- is one more than this key.
pub greatest : {Y : Type 0} (key : Y → ℕ) (passes : Y → Bool) (rows : List Y) (first : Y) (others : List Y) (last : Option ℕ)
    → IsPermutation (filter passes rows) (first ∷ others) → AllByRecursion (λ y. key y ≤ key first) others
    → IsLast passes (λ y n. n ≡ key y) key rows last → next_place last ≡ key first + 1
greatest key passes rows first others None are most h =
    let long = length_permutation (filter passes rows) (first ∷ others) are in
    let none : length (filter passes rows) ≡ 0 = ap length h in absurd (omega (arith, long, none))
greatest key passes rows first others (Some n) are most h =
    let x = h.0 in
    let this : IsPermutation (x ∷ h.2) (first ∷ others) = IsPermutation-trans _ _ _ (IsPermutation-sym _ _ h.3) are in
    let low = recursion_from_All (λ z. key z ≤ key first) (x ∷ h.2)
    (All-permutation (λ z. key z ≤ key first) (first ∷ others) (x ∷ h.2) (IsPermutation-sym _ _ this)
    (All-from_recursion (λ z. key z ≤ key first) (first ∷ others) (omega arith, most))) in
    let high = recursion_from_All (λ z. key z ≤ key x) (first ∷ others)
    (All-permutation (λ z. key z ≤ key x) (x ∷ h.2) (first ∷ others) this
    (All-from_recursion (λ z. key z ≤ key x) (x ∷ h.2) (omega arith, h.4))) in
    let is = h.1 in
    omega (arith, low.0, high.0, is)

module _ {X Y : Type 0} (row : ℕ → X → Y) (key : Y → ℕ) (keyed : (place : ℕ) (x : X) → key (row place x) ≡ place) where
  -- No index of a numbered list is greater than the length of the list.
  few : (n : ℕ) (xs : List X) → length xs ≤ n → AllByRecursion (λ y. key y ≤ n) (placed row xs)
  few n [] h = tt
  few n (x ∷ xs) h = (rw (keyed (length xs + 1) x) (omega arith), few n xs (omega arith))

  -- The greatest index in a list whose rows are numbered from 1 is the length of the list.
  pub last_counts : (xs : List X) (last : Option ℕ) → IsLast every (λ y n. n ≡ key y) key (placed row xs) last → next_place last ≡ length xs + 1
  last_counts [] None h = refl
  last_counts [] (Some n) h = let long = length_permutation _ _ h.3 in absurd (omega (arith, long))
  last_counts (x ∷ xs) last h =
      let first = keyed (length xs + 1) x in
      let following = greatest key every (placed row (x ∷ xs)) (row (length xs + 1) x) (placed row xs) last
      (IsPermutation-same _ _ (all_every (placed row (x ∷ xs))))
      (few (key (row (length xs + 1) x)) xs (omega (arith, first))) h in
      omega (arith, first, following)

-- If two conversions from elements to rows agree on each element of a list, they convert the list
-- to the same numbered rows.
pub placed_same : {X Y : Type 0} (row other : ℕ → X → Y) (xs : List X) → AllByRecursion (λ x. (place : ℕ) → row place x ≡ other place x) xs
    → placed row xs ≡ placed other xs
placed_same row other [] h = refl
placed_same row other (x ∷ xs) h = ap₂ ◌∷◌ (h.0 (length xs + 1)) (placed_same row other xs h.1)

pub placed_changed : {X Y : Type 0} (p : Y → Bool) (f : Y → Y) (row other : ℕ → X → Y) (xs : List X)
    → AllByRecursion (λ x. (place : ℕ) → other place x ≡ cond (p (row place x)) (f (row place x)) (row place x)) xs
    → placed other xs ≡ changed_where p f (placed row xs)
placed_changed p f row other [] h = refl
placed_changed p f row other (x ∷ xs) h = ap₂ ◌∷◌ (h.0 (length xs + 1)) (placed_changed p f row other xs h.1)
