-- Proofs about the rows that a query selects from a list of rows numbered by index. For example,
-- the selected rows pass the query's test.
use Rattle.std.proofs.Common.{◌≡◌, ◌≤◌, ℕ, ◌+◌, Bool, true, false, cond, inl, inr, ◌⊎◌, List, [], ◌∷◌, map, filter, length, Option, Some, None, refl, sym, ap, subst, ◌∙◌, arith, IsPermutation}
use Rattle.std.specs.List.{find, AllByRecursion}
use Rattle.std.proofs.lemmas.Bool.{cases_Bool, cond-true, cond-false}
use Rattle.std.proofs.lemmas.List.Elements.{recursion_from_All, All-from_recursion}
use Rattle.std.proofs.lemmas.List.Sorted.{length_permutation, All-permutation, IsPermutation-sym}
use Rattle.sqlite_keyed.proofs.ListLemmas.{all-filter, all_both}
use Rattle.store_tables.specs.Answer.{IsFound, IsLast}
use Rattle.office_store.specs.Rows.{placed}

-- Lemmas that filtering rows by a test returns only rows that pass the test.

passing_step : {Y : Type 0} (p : Y → Bool) (b : Bool) (y : Y) (ys : List Y) → p y ≡ b → AllByRecursion (λ z. p z ≡ true) ys → AllByRecursion (λ z. p z ≡ true) (cond b (y ∷ ys) ys)
passing_step p true y ys is more = (is, more)
passing_step p false y ys is more = more

-- If a filter returns an element, the element passes the filter's test.
pub all_passing : {Y : Type 0} (p : Y → Bool) (ys : List Y) → AllByRecursion (λ y. p y ≡ true) (filter p ys)
all_passing p [] = tt
all_passing p (y ∷ ys) = passing_step p (p y) y (filter p ys) refl (all_passing p ys)

-- If a query finds a row, the row passes the query's test, and has every property that all rows
-- have.
pub found_has : {Y : Type 0} (p : Y → Bool) (P : Y → Type 0) (rows : List Y) (y : Y) (others : List Y) → AllByRecursion P rows → IsPermutation (filter p rows) (y ∷ others)
    → P y × (p y ≡ true)
found_has p P rows y others all are =
    let here = recursion_from_All P (y ∷ others) (All-permutation P _ _ are (All-from_recursion P _ (all-filter P p rows all))) in
    let passes = recursion_from_All (λ z. p z ≡ true) (y ∷ others) (All-permutation (λ z. p z ≡ true) _ _ are (All-from_recursion (λ z. p z ≡ true) _ (all_passing p rows))) in
    (here.0, passes.0)

-- If a filter returns no element of a list, every element of the list fails the filter's test.
pub none_passes : {Y : Type 0} (p : Y → Bool) (ys : List Y) → filter p ys ≡ [] → AllByRecursion (λ y. p y ≡ false) ys
none_passes p [] h = tt
none_passes p (y ∷ ys) h = elim (cases_Bool (p y)) [
  | inl is ↦ absurd (let e : y ∷ filter p ys ≡ [] = sym (cond-true _ _ _ is) ∙ h in cc)
  | inr off ↦ (off, none_passes p ys (sym (cond-false _ _ _ off) ∙ h))
]

pub none_mapped : {X Y : Type 0} (row : X → Y) (p : X → Bool) (q : Y → Bool) → ((x : X) → q (row x) ≡ p x) → (xs : List X) → filter q (map row xs) ≡ [] → find p xs ≡ None
none_mapped row p q agree [] h = refl
none_mapped row p q agree (x ∷ xs) h = elim (cases_Bool (p x)) [
  | inl is ↦ absurd (let e : row x ∷ filter q (map row xs) ≡ [] = sym (cond-true _ _ _ (agree x ∙ is)) ∙ h in cc)
  | inr off ↦ cond-false _ _ _ off ∙ none_mapped row p q agree xs (sym (cond-false _ _ _ (agree x ∙ off)) ∙ h)
]

-- Lemmas on the numbered rows of a list that has its latest element first. Of the rows that pass a
-- test, the row with the greatest index encodes the latest element that passes it.

module _ {X Y : Type 0} (row : ℕ → X → Y) (p : X → Bool) (q : Y → Bool) (agree : (n : ℕ) (x : X) → q (row n x) ≡ p x) where
  -- If none of a list's numbered rows passes a test of rows, no element of the list passes the
  -- corresponding test of elements.
  pub none_placed : (xs : List X) → filter q (placed row xs) ≡ [] → find p xs ≡ None
  none_placed [] h = refl
  none_placed (x ∷ xs) h = elim (cases_Bool (p x)) [
    | inl is ↦ absurd (let e : row (length xs + 1) x ∷ filter q (placed row xs) ≡ [] = sym (cond-true _ _ _ (agree (length xs + 1) x ∙ is)) ∙ h in cc)
    | inr off ↦ cond-false _ _ _ off ∙ none_placed xs (sym (cond-false _ _ _ (agree (length xs + 1) x ∙ off)) ∙ h)
  ]

  module _ {A : Type 0} (IsSeen : Y → A → Type 0) (key : Y → ℕ) (keyed : (n : ℕ) (x : X) → key (row n x) ≡ n) where
    -- True if the row `y` encodes the element `x` with the index `n` + 1, or has an index of at
    -- most `n`.
    abbrev IsUpTo : (n : ℕ) → X → Y → Type 0
    IsUpTo n x y = (y ≡ row (n + 1) x) ⊎ (key y ≤ n)

    before : (n m : ℕ) (x : X) (xs : List X) → length xs ≤ m → m ≤ n → AllByRecursion (IsUpTo n x) (placed row xs)
    before n m x [] few le = tt
    before n m x (z ∷ zs) few le = (inr (rw (keyed (length zs + 1) z) (omega (arith, few, le))), before n m x zs (omega (arith, few)) le)

    first_step : (x : X) (xs : List X) (a : A) → q (row (length xs + 1) x) ≡ true → IsLast q IsSeen key (row (length xs + 1) x ∷ placed row xs) (Some a) → IsSeen (row (length xs + 1) x) a
    first_step x xs a is h =
        let n = length xs in
        let head = row (n + 1) x in
        let y = h.0 in
        let whole : IsPermutation (head ∷ filter q (placed row xs)) (y ∷ h.2) = subst (λ l. IsPermutation l (y ∷ h.2)) (cond-true _ _ _ is) h.3 in
        let up = (found_has q (IsUpTo n x) (head ∷ placed row xs) y h.2 (inl refl, before n n x xs (omega arith) (omega arith)) h.3).0 in
        let low = (recursion_from_All (λ z. key z ≤ key y) (head ∷ filter q (placed row xs)) (All-permutation (λ z. key z ≤ key y) (y ∷ h.2) _ (IsPermutation-sym _ _ whole)
        (All-from_recursion (λ z. key z ≤ key y) (y ∷ h.2) (omega arith, h.4)))).0 in
        let top = keyed (n + 1) x in
        elim up [
          | inl this ↦ subst (λ z. IsSeen z a) this h.1
          | inr small ↦ absurd (omega (arith, low, top, small))
        ]

    -- Of a list's numbered rows that pass a test, the row with the greatest index encodes the
    -- list's first element that passes the test. The indices of the rows descend along the list.
    pub last_placed : (xs : List X) (a : A) → IsLast q IsSeen key (placed row xs) (Some a) → (x : X) × (n : ℕ) × (find p xs ≡ Some x) × IsSeen (row n x) a
    last_placed [] a h = absurd (let long = length_permutation _ _ h.3 in omega (arith, long))
    last_placed (x ∷ xs) a h = elim (cases_Bool (p x)) [
      | inl is ↦ (x, length xs + 1, cond-true _ _ _ is, first_step x xs a (agree (length xs + 1) x ∙ is) h)
      | inr off ↦
          let less : filter q (placed row (x ∷ xs)) ≡ filter q (placed row xs) = cond-false _ _ _ (agree (length xs + 1) x ∙ off) in
          let it = last_placed xs a (h.0, h.1, h.2, subst (λ l. IsPermutation l (h.0 ∷ h.2)) less h.3, h.4) in
          (it.0, it.1, cond-false _ _ _ off ∙ it.2, it.3)
    ]

-- If all elements of a list have a property, the elements that the list's numbered rows encode have
-- the property.
pub all_placed : {X Y : Type 0} (row : ℕ → X → Y) (P : X → Type 0) (xs : List X) → AllByRecursion P xs → AllByRecursion (λ y. (x : X) × (n : ℕ) × (y ≡ row n x) × P x) (placed row xs)
all_placed row P [] h = tt
all_placed row P (x ∷ xs) h = ((x, length xs + 1, refl, h.0), all_placed row P xs h.1)

pub all_mapped : {X Y : Type 0} (row : X → Y) (P : X → Type 0) (xs : List X) → AllByRecursion P xs → AllByRecursion (λ y. (x : X) × (y ≡ row x) × P x) (map row xs)
all_mapped row P [] h = tt
all_mapped row P (x ∷ xs) h = ((x, refl, h.0), all_mapped row P xs h.1)
