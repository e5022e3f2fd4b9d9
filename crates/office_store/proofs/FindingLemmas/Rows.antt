-- Proofs about the rows of tables: rows in the order of their keys, rows numbered by index, and
-- queries that return at most one row.
use Rattle.std.proofs.Common.{◌≡◌, ℕ, ◌+◌, ◌≤◌, ◌<◌, Bool, true, false, cond, inl, inr, List, [], ◌∷◌, ◌++◌, map, filter, reverse, length, find, slice_get, Option, Some, None, refl, sym, ap, ap₂, subst, ◌∙◌, IsPermutation, arith}
use Rattle.std.specs.List.{AllByRecursion}
use Rattle.std.proofs.lemmas.Bool.{cases_Bool, cond-true, cond-false}
use Rattle.std.proofs.lemmas.List.Sorted.{length_permutation, All-permutation, IsPermutation-sym, IsPermutation-trans, IsPermutation-reverse}
use Rattle.std.proofs.lemmas.List.Elements.{All-from_recursion, recursion_from_All}
use Rattle.sqlite.specs.Tree.{IsAscending}
use Rattle.sqlite_keyed.proofs.ListLemmas.{all_weaker, all-filter, ascending-append, slice_get-filter}
use Rattle.office_books.proofs.Lists.{reverse_cons}
use Rattle.office_store.specs.Rows.{placed}
use Rattle.store_tables.specs.Answer.{IsFound}
use Rattle.office_store.specs.Finding.Each.{AreEach}
use Rattle.office_store.proofs.FindingLemmas.Each.{each_append, each_filter, each_length}
use Rattle.office_store.proofs.FindingLemmas.Ordered.{Rises, NeverFalls, one_order}

-- Lemmas on reversing a list of rows: a list with descending keys becomes a list with ascending
-- keys.

module _ {X A : Type 0} (Is : X → A → Type 0) where
  pub each_reverse : (xs : List X) (vs : List A) → AreEach Is xs vs → AreEach Is (reverse xs) (reverse vs)
  each_reverse [] [] h = tt
  each_reverse [] (v ∷ vs) h = absurd h
  each_reverse (x ∷ xs) [] h = absurd h
  each_reverse (x ∷ xs) (v ∷ vs) h = rw (reverse_cons x xs, reverse_cons v vs) (each_append Is (reverse xs) (x ∷ []) (reverse vs) (v ∷ []) (each_reverse xs vs h.1) (h.0, tt))

pub all_reverse : {X : Type 0} (P : X → Type 0) (xs : List X) → AllByRecursion P xs → AllByRecursion P (reverse xs)
all_reverse P xs h = recursion_from_All P _ (All-permutation P xs (reverse xs) (IsPermutation-reverse xs) (All-from_recursion P xs h))

module _ {X : Type 0} (key : X → ℕ) where
  -- True if each key in a list is greater than all later keys.
  abbrev pub Falls : List X → Type 0
  Falls = IsAscending (λ x y. key y < key x)

  reverse_rises : (xs : List X) → Falls xs → Rises key (reverse xs)
  reverse_rises [] h = tt
  reverse_rises (x ∷ xs) h =
      rw (reverse_cons x xs)
      (ascending-append (λ x y. key x < key y) (reverse xs) (x ∷ []) (reverse_rises xs h.1) (tt, tt)
      (all_weaker _ _ (λ z lt. (lt, tt)) (reverse xs) (all_reverse (λ z. key z < key x) xs h.0)))

  -- If the keys of a list descend, sorting the list by ascending keys reverses it.
  pub in_turn : (xs found : List X) → Falls xs → IsPermutation xs found → NeverFalls key found → found ≡ reverse xs
  in_turn xs found falls same up = one_order key (reverse xs) found (reverse_rises xs falls) (IsPermutation-trans _ _ _ (IsPermutation-sym _ _ (IsPermutation-reverse xs)) same) up

-- Lemmas on rows that are numbered by index: each row encodes the list element at the row's index.

module _ {X Y : Type 0} (row : ℕ → X → Y) where
  pub each_placed : (xs : List X) → AreEach (λ y x. (place : ℕ) × (y ≡ row place x)) (placed row xs) xs
  each_placed [] = tt
  each_placed (x ∷ xs) = ((length xs + 1, refl), each_placed xs)

  module _ (key : Y → ℕ) (keyed : (place : ℕ) (x : X) → key (row place x) ≡ place) where
    few : (n : ℕ) (xs : List X) → length xs < n → AllByRecursion (λ y. key y < n) (placed row xs)
    few n [] h = tt
    few n (x ∷ xs) h = (let is = keyed (length xs + 1) x in omega (arith, is), few n xs (omega arith))

    pub placed_falls : (xs : List X) → Falls key (placed row xs)
    placed_falls [] = tt
    placed_falls (x ∷ xs) = (few (key (row (length xs + 1) x)) xs (let is = keyed (length xs + 1) x in omega (arith, is)), placed_falls xs)

-- Lemmas that, if at most one row passes a test, a query returns the element that the row encodes,
-- or None.

module _ {X A B : Type 0} (Is : X → A → Type 0) (Seen : X → B → Type 0) (p : X → Bool) (q : A → Bool) where
  -- True if a query's result is correct for a list in which at most one element passes a test. The
  -- result is this element, or None because no element passes.
  abbrev pub IsOnly : List A → Option B → Type 0
  IsOnly vs None = find q vs ≡ None
  IsOnly vs (Some b) = (x : X) × (a : A) × Is x a × Seen x b × (find q vs ≡ Some a)

  none_of : (xs : List X) (vs : List A) → AreEach Is xs vs → xs ≡ [] → slice_get vs 0 ≡ None
  none_of [] [] h e = refl
  none_of [] (v ∷ vs) h e = absurd h
  none_of (x ∷ xs) vs h e = absurd (let f = e in cc)

  one_of : (xs : List X) (vs : List A) (x : X) (others : List X) → AreEach Is xs vs → length vs ≤ 1 → IsPermutation xs (x ∷ others) → (a : A) × Is x a × (slice_get vs 0 ≡ Some a)
  one_of [] vs x others h few same = absurd (omega (arith, length_permutation _ _ same))
  one_of (y ∷ ys) [] x others h few same = absurd h
  one_of (y ∷ z ∷ ys) (v ∷ []) x others h few same = absurd h.1
  one_of (y ∷ z ∷ ys) (v ∷ w ∷ vs) x others h few same = absurd (omega arith)
  one_of (y ∷ []) (v ∷ w ∷ vs) x others h few same = absurd h.1
  one_of (y ∷ []) (v ∷ []) x others h few same =
      let all = recursion_from_All (λ z. z ≡ y) (x ∷ others) (All-permutation (λ z. z ≡ y) (y ∷ []) (x ∷ others) same (All-from_recursion (λ z. z ≡ y) (y ∷ []) (refl, tt))) in
      (v, subst (λ z. Is z v) (sym all.0) h.0, refl)

  pub only_found : (xs : List X) (vs : List A) (found : Option B) → ((x : X) (a : A) → Is x a → p x ≡ q a) → AreEach Is xs vs → length (filter q vs) ≤ 1 → IsFound p Seen xs found → IsOnly vs found
  only_found xs vs None agree each few h = sym (slice_get-filter q vs) ∙ none_of (filter p xs) (filter q vs) (each_filter Is p q agree xs vs each) h
  only_found xs vs (Some b) agree each few h =
      let it = one_of (filter p xs) (filter q vs) h.0 h.2 (each_filter Is p q agree xs vs each) few h.3 in
      (h.0, it.0, it.1, h.1, sym (slice_get-filter q vs) ∙ it.2)

-- Suppose that each element of a list has a property, for example that its values are in their
-- ranges. Then the element that a look-up in the list finds has this property.
pub found_sound : {X B : Type 0} (Seen : X → B → Type 0) (p : X → Bool) (S : X → Type 0) (xs : List X) (b : B) → IsFound p Seen xs (Some b) → (x : X) × Seen x b × (AllByRecursion S xs → S x)
found_sound Seen p S xs b h = (
  h.0,
  h.1,
  λ all.
      let those = recursion_from_All S (h.0 ∷ h.2) (All-permutation S (filter p xs) (h.0 ∷ h.2) h.3 (All-from_recursion S (filter p xs) (all-filter S p xs all))) in
      those.0,
)
