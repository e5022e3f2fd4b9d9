-- Lemmas about how often a number occurs in a list, such as a concatenated, permuted or filtered
-- list.
use Rattle.std.proofs.Common.{◌≡◌, ℕ, ◌+◌, ◌<◌, ◌≤◌, ◌==◌, Bool, true, false, cond, not, List, [], ◌∷◌, ◌++◌, map, refl, sym, ap, ◌∙◌, inl, inr, Some, arith}
use Rattle.std.specs.List.{filter, find, sum_by}
use Rattle.std.specs.List.Sorted.{IsPermutation}
use Rattle.std.specs.Option.{is_some}
use Rattle.std.proofs.lemmas.Bool.{cases_Bool, cond-true, eqb-true, eq-eqb}
use Rattle.std.proofs.lemmas.List.Sums.{sum_by-append}
use Rattle.std.proofs.lemmas.List.Sorted.{sum_by-IsPermutation}

-- The value 1 if two numbers are equal, otherwise 0.
abbrev pub one_if : ℕ → ℕ → ℕ
one_if n m = cond (m == n) 1 0

unfoldable pub times : ℕ → List ℕ → ℕ
times n ns = sum_by (one_if n) ns

pub times-nil : (n : ℕ) → times n [] ≡ 0
unfolding times
times-nil n = refl

zero_and : (k : ℕ) → 0 + k ≡ k
zero_and k = omega arith

pub times-cons : (n m : ℕ) (ns : List ℕ) → times n (m ∷ ns) ≡ one_if n m + times n ns
unfolding times
times-cons n m ns =
    let first : times n (m ∷ []) ≡ one_if n m = zero_and (one_if n m) in
    sum_by-append (one_if n) (m ∷ []) ns ∙ ap (λ k. k + times n ns) first

pub times-append : (n : ℕ) (xs ys : List ℕ) → times n (xs ++ ys) ≡ times n xs + times n ys
unfolding times
times-append n xs ys = sum_by-append (one_if n) xs ys

pub times-permutation : (n : ℕ) (xs ys : List ℕ) → IsPermutation xs ys → times n ys ≡ times n xs
unfolding times
times-permutation n xs ys h = sum_by-IsPermutation (one_if n) xs ys h

one_at_most : (b : Bool) → cond b 1 0 ≤ 1
one_at_most true = omega arith
one_at_most false = omega arith

pub one_if-same : (n : ℕ) → one_if n n ≡ 1
one_if-same n = cond-true (n == n) 1 0 (eq-eqb n n refl)

one_if_other : (n m : ℕ) → m == n ≡ false → one_if n m ≡ 0
one_if_other n m h = ap (λ b. cond b 1 0) h

-- If a statement about two numbers holds for equal numbers and for different numbers, then the
-- statement holds.
pub one_if_cases : {P : Type 0} (n m : ℕ) → (m ≡ n → P) → (m == n ≡ false → one_if n m ≡ 0 → P) → P
one_if_cases n m here elsewhere =
    elim (cases_Bool (m == n)) [
      | inl e ↦ here (eqb-true m n e)
      | inr e ↦ elsewhere e (one_if_other n m e)
    ]

parts_step : {X : Type 0} (f : X → ℕ) (n : ℕ) (b : Bool) (x : X) (us vs xs : List X)
    → times n (map f us) + times n (map f vs) ≡ times n (map f xs)
    → times n (map f (cond b (x ∷ us) us)) + times n (map f (cond (not b) (x ∷ vs) vs)) ≡ times n (map f (x ∷ xs))
parts_step f n true x us vs xs h = omega (arith, times-cons n (f x) (map f us), times-cons n (f x) (map f xs))
parts_step f n false x us vs xs h = omega (arith, times-cons n (f x) (map f vs), times-cons n (f x) (map f xs))

-- In a list filtered by a predicate, the occurrences of a number among the elements that satisfy
-- the predicate and among the others add up to all occurrences.
pub times_parted : {X : Type 0} (f : X → ℕ) (p : X → Bool) (n : ℕ) (xs : List X)
    → times n (map f (filter p xs)) + times n (map f (filter (λ x. not (p x)) xs)) ≡ times n (map f xs)
times_parted f p n [] = omega (arith, times-nil n)
times_parted f p n (x ∷ xs) = parts_step f n (p x) x (filter p xs) (filter (λ y. not (p y)) xs) xs (times_parted f p n xs)

-- If a number occurs among the elements that satisfy a predicate on numbers, then this number
-- satisfies the predicate.
passing_step : {X : Type 0} (f : X → ℕ) (g : ℕ → Bool) (n : ℕ) (b : Bool) (x : X) (xs : List X) → g (f x) ≡ b
    → (0 < times n (map f xs) → g n ≡ true) → 0 < times n (map f (cond b (x ∷ xs) xs)) → g n ≡ true
passing_step f g n true x xs e later h =
    one_if_cases n (f x) (λ same_number. ap g (sym same_number) ∙ e)
    (λ other none. later (omega (arith, times-cons n (f x) (map f xs), none, h)))
passing_step f g n false x xs e later h = later h

pub passes_if_among : {X : Type 0} (f : X → ℕ) (g : ℕ → Bool) (n : ℕ) (xs : List X)
    → 0 < times n (map f (filter (λ x. g (f x)) xs)) → g n ≡ true
passes_if_among f g n [] h = absurd (omega (arith, times-nil n, h))
passes_if_among f g n (x ∷ xs) h =
    passing_step f g n (g (f x)) x (filter (λ y. g (f y)) xs) refl (passes_if_among f g n xs) h

found_step : {X : Type 0} (f : X → ℕ) (n : ℕ) (x : X) (xs : List X)
    → (0 < times n (map f xs) → is_some (find (λ y. f y == n) xs) ≡ true) → 0 < one_if n (f x) + times n (map f xs)
    → is_some (cond (f x == n) (Some x) (find (λ y. f y == n) xs)) ≡ true
found_step f n x xs later h =
    one_if_cases n (f x) (λ same_number. ap (λ b. is_some (cond b (Some x) (find (λ y. f y == n) xs))) (eq-eqb (f x) n same_number))
    (λ other none. ap (λ b. is_some (cond b (Some x) (find (λ y. f y == n) xs))) other ∙ later (omega (arith, none, h)))

-- If a number occurs in a list, then a search for the number finds it.
pub found_if_among : {X : Type 0} (f : X → ℕ) (n : ℕ) (xs : List X) → 0 < times n (map f xs) → is_some (find (λ x. f x == n) xs) ≡ true
found_if_among f n [] h = absurd (omega (arith, times-nil n, h))
found_if_among f n (x ∷ xs) h = found_step f n x xs (found_if_among f n xs) (omega (arith, times-cons n (f x) (map f xs), h))
