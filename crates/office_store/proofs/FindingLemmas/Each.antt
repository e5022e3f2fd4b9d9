-- Proofs about two lists of equal length, where a relation holds between the elements at each
-- index.
use Rattle.std.proofs.Common.{◌≡◌, ℕ, ◌+◌, ◌≤◌, Bool, true, false, cond, inl, inr, List, [], ◌∷◌, ◌++◌, map, filter, reverse, length, find, slice_get, Option, Some, None, refl, sym, ap, ap₂, subst, ◌∙◌, IsPermutation, arith}
use Rattle.std.specs.List.{AllByRecursion}
use Rattle.std.proofs.lemmas.Bool.{cases_Bool, cond-true, cond-false}
use Rattle.std.proofs.lemmas.List.Sorted.{length_permutation, All-permutation, IsPermutation-sym}
use Rattle.std.proofs.lemmas.List.Elements.{All-from_recursion, recursion_from_All}
use Rattle.office_store.specs.Finding.Each.{AreEach}

module _ {X A : Type 0} (Is : X → A → Type 0) where
  pub each_append : (xs ys : List X) (vs bs : List A) → AreEach Is xs vs → AreEach Is ys bs → AreEach Is (xs ++ ys) (vs ++ bs)
  each_append [] ys [] bs h k = k
  each_append [] ys (a ∷ vs) bs h k = absurd h
  each_append (x ∷ xs) ys [] bs h k = absurd h
  each_append (x ∷ xs) ys (a ∷ vs) bs h k = (h.0, each_append xs ys vs bs h.1 k)

  pub each_length : (xs : List X) (vs : List A) → AreEach Is xs vs → length xs ≡ length vs
  each_length [] [] h = refl
  each_length [] (a ∷ vs) h = absurd h
  each_length (x ∷ xs) [] h = absurd h
  each_length (x ∷ xs) (a ∷ vs) h = let e = each_length xs vs h.1 in omega (arith, e)

  filter_step : (b : Bool) (p : X → Bool) (q : A → Bool) (x : X) (a : A) (xs : List X) (vs : List A) → p x ≡ b → q a ≡ b → Is x a
      → AreEach Is (filter p xs) (filter q vs) → AreEach Is (filter p (x ∷ xs)) (filter q (a ∷ vs))
  filter_step true p q x a xs vs e f is more = rw (e, f) (is, more)
  filter_step false p q x a xs vs e f is more = rw (e, f) more

  -- Suppose that a relation holds between the elements of two lists at each index, and two tests
  -- agree on related elements. After each list was filtered by its test, the relation still holds
  -- at each index.
  pub each_filter : (p : X → Bool) (q : A → Bool) → ((x : X) (a : A) → Is x a → p x ≡ q a) → (xs : List X) (vs : List A) → AreEach Is xs vs → AreEach Is (filter p xs) (filter q vs)
  each_filter p q agree [] [] h = tt
  each_filter p q agree [] (a ∷ vs) h = absurd h
  each_filter p q agree (x ∷ xs) [] h = absurd h
  each_filter p q agree (x ∷ xs) (a ∷ vs) h = filter_step (p x) p q x a xs vs refl (sym (agree x a h.0)) h.0 (each_filter p q agree xs vs h.1)

  -- Suppose that two lists have values of the same rows, and that any two values of one row are in
  -- the relation `Same`. Then `Same` holds between the values of the two lists at each index.
  pub each_same : {B : Type 0} (Seen : X → B → Type 0) (Same : A → B → Type 0) → ((x : X) (a : A) (b : B) → Is x a → Seen x b → Same a b)
      → (xs : List X) (vs : List A) (bs : List B) → AreEach Is xs vs → AreEach Seen xs bs → AreEach Same vs bs
  each_same Seen Same same [] [] [] h k = tt
  each_same Seen Same same [] [] (b ∷ bs) h k = absurd k
  each_same Seen Same same [] (a ∷ vs) bs h k = absurd h
  each_same Seen Same same (x ∷ xs) [] bs h k = absurd h
  each_same Seen Same same (x ∷ xs) (a ∷ vs) [] h k = absurd k
  each_same Seen Same same (x ∷ xs) (a ∷ vs) (b ∷ bs) h k = (same x a b h.0 k.0, each_same Seen Same same xs vs bs h.1 k.1)

pub each_equal : {A : Type 0} (vs bs : List A) → AreEach (λ a b. b ≡ a) vs bs → bs ≡ vs
each_equal [] [] h = refl
each_equal [] (b ∷ bs) h = absurd h
each_equal (a ∷ vs) [] h = absurd h
each_equal (a ∷ vs) (b ∷ bs) h = ap₂ ◌∷◌ h.0 (each_equal vs bs h.1)

pub each_map : {X A : Type 0} (f : A → X) (vs : List A) → AreEach (λ x a. x ≡ f a) (map f vs) vs
each_map f [] = tt
each_map f (a ∷ vs) = (refl, each_map f vs)
