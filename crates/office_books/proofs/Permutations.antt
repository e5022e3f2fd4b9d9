-- Lemmas about permutations of lists: exchanging parts of a list yields a permutation, and mapping
-- preserves permutations.
use Rattle.std.proofs.Common.{◌≡◌, ℕ, zero, suc, ◌<◌, ◌≤◌, Bool, true, false, cond, List, [], ◌∷◌, ◌++◌, length, get_or, refl, sym, ap, subst, arith, Option, Some, None, append_assoc}
use Rattle.std.specs.List.{filter, filter_map, flat_map, cons_option, swap, Contains}
use Rattle.std.specs.Option.{option_to_list}
use Rattle.std.specs.List.Sorted.{IsPermutation}
use Rattle.std.proofs.Math.ListN.{set}
use Rattle.std.proofs.lemmas.List.{get_or_default}
use Rattle.std.proofs.lemmas.List.Edits.{swap_is}
use Rattle.std.proofs.lemmas.List.Sorted.{IsPermutation-refl, IsPermutation-trans, IsPermutation-append, IsPermutation-append_left, IsPermutation-append_right, IsPermutation-append_comm, IsPermutation-keeps, Contains-permutation, length_permutation}

pub same_is : {X : Type 0} (xs ys : List X) → xs ≡ ys → IsPermutation xs ys
same_is xs ys e = let P : List _ → Type 0 = λ zs. IsPermutation xs zs in subst P e (IsPermutation-refl xs)

-- Exchanging the first two of three concatenated lists yields a permutation of the concatenation.
pub exchanged : {X : Type 0} (xs ys zs : List X) → IsPermutation (xs ++ (ys ++ zs)) (ys ++ (xs ++ zs))
exchanged xs ys zs =
    IsPermutation-trans _ _ _ (same_is _ _ (sym (append_assoc xs ys zs)))
    (IsPermutation-trans _ _ _ (IsPermutation-append_left zs (xs ++ ys) (ys ++ xs) (IsPermutation-append_comm xs ys))
    (same_is _ _ (append_assoc ys xs zs)))

-- If two lists are each split into two parts, then their concatenation is a permutation of both
-- first parts followed by both second parts.
pub sorted_out : {X : Type 0} (us vs xs ys zs ws : List X) → IsPermutation us (xs ++ ys) → IsPermutation vs (zs ++ ws) → IsPermutation (us ++ vs) ((xs ++ zs) ++ (ys ++ ws))
sorted_out us vs xs ys zs ws p q =
    IsPermutation-trans _ _ _ (IsPermutation-append us (xs ++ ys) vs (zs ++ ws) p q)
    (IsPermutation-trans _ _ _ (same_is _ _ (append_assoc xs ys (zs ++ ws)))
    (IsPermutation-trans _ _ _ (IsPermutation-append_right xs (ys ++ (zs ++ ws)) (zs ++ (ys ++ ws)) (exchanged ys zs ws))
    (same_is _ _ (sym (append_assoc xs zs (ys ++ ws))))))

-- The concatenation of `f y` and the images under `f` of a list's elements changes only by a
-- permutation if `y` and the list's element `z` change places.
exchange_at : {X Y : Type 0} (f : X → List Y) (xs : List X) (j : ℕ) (y z : X) → j < length xs → z ≡ get_or xs j z → IsPermutation (f y ++ flat_map f xs) (f z ++ flat_map f (set xs j y))
exchange_at f [] j y z l e = absurd (let h : j < 0 = l in omega arith)
exchange_at f (x ∷ xs) zero y z l e =
    let e' : z ≡ x = e in
    let P : _ → Type 0 = λ w. IsPermutation (f y ++ (f x ++ flat_map f xs)) (f w ++ (f y ++ flat_map f xs)) in
    subst P (sym e') (exchanged (f y) (f x) (flat_map f xs))
exchange_at f (x ∷ xs) (suc j) y z l e =
    let l' : j < length xs = omega arith in
    IsPermutation-trans _ _ _ (exchanged (f y) (f x) (flat_map f xs))
    (IsPermutation-trans _ _ _ (IsPermutation-append_right (f x) (f y ++ flat_map f xs) (f z ++ flat_map f (set xs j y)) (exchange_at f xs j y z l' e))
    (exchanged (f x) (f z) (flat_map f (set xs j y))))

exchange_both : {X Y : Type 0} (f : X → List Y) (xs : List X) (i j : ℕ) (a b : X) → i < length xs → j < length xs → a ≡ get_or xs i a → b ≡ get_or xs j b → IsPermutation (flat_map f xs) (flat_map f (set (set xs i b) j a))
exchange_both f [] i j a b p q d e = absurd (let h : i < 0 = p in omega arith)
exchange_both f (x ∷ xs) zero zero a b p q d e =
    let d' : a ≡ x = d in
    same_is _ _ (ap (λ w. f w ++ flat_map f xs) (sym d'))
exchange_both f (x ∷ xs) zero (suc j) a b p q d e =
    let d' : a ≡ x = d in
    let l : j < length xs = omega arith in
    let P : _ → Type 0 = λ w. IsPermutation (f w ++ flat_map f xs) (f b ++ flat_map f (set xs j a)) in
    subst P d' (exchange_at f xs j a b l e)
exchange_both f (x ∷ xs) (suc i) zero a b p q d e =
    let e' : b ≡ x = e in
    let l : i < length xs = omega arith in
    let P : _ → Type 0 = λ w. IsPermutation (f w ++ flat_map f xs) (f a ++ flat_map f (set xs i b)) in
    subst P e' (exchange_at f xs i b a l d)
exchange_both f (x ∷ xs) (suc i) (suc j) a b p q d e =
    let l : i < length xs = omega arith in
    let m : j < length xs = omega arith in
    IsPermutation-append_right (f x) (flat_map f xs) (flat_map f (set (set xs i b) j a)) (exchange_both f xs i j a b l m d e)

flat_map-swap : {X Y : Type 0} (f : X → List Y) (xs : List X) (i j : ℕ) → i < length xs → j < length xs → IsPermutation (flat_map f xs) (flat_map f (swap xs i j))
flat_map-swap f [] i j p q = absurd (let h : i < 0 = p in omega arith)
flat_map-swap f (x ∷ xs) i j p q =
    let a = get_or (x ∷ xs) i x in
    let b = get_or (x ∷ xs) j x in
    let P : List _ → Type 0 = λ ys. IsPermutation (flat_map f (x ∷ xs)) (flat_map f ys) in
    subst P (swap_is (x ∷ xs) i j x p q) (exchange_both f (x ∷ xs) i j a b p q (get_or_default (x ∷ xs) i x a p) (get_or_default (x ∷ xs) j x b q))

-- If two lists are permutations of each other, then mapping both with a function to lists and
-- concatenating the results yields permutations of each other.
pub IsPermutation-flat_map : {X Y : Type 0} (f : X → List Y) (xs ys : List X) → IsPermutation xs ys → IsPermutation (flat_map f xs) (flat_map f ys)
IsPermutation-flat_map f xs ys h =
    IsPermutation-keeps xs (λ zs. IsPermutation (flat_map f xs) (flat_map f zs)) (IsPermutation-refl (flat_map f xs))
    (λ l i j p q same. IsPermutation-trans _ _ _ same (flat_map-swap f l i j p q)) ys h

filter_map-step : {Y : Type 0} (o : Option Y) (ys zs : List Y) → ys ≡ zs → cons_option o ys ≡ option_to_list o ++ zs
filter_map-step None ys zs e = e
filter_map-step (Some y) ys zs e = ap (λ xs. y ∷ xs) e

filter_map-flat_map : {X Y : Type 0} (h : X → Option Y) (xs : List X) → filter_map h xs ≡ flat_map (λ x. option_to_list (h x)) xs
filter_map-flat_map h [] = refl
filter_map-flat_map h (x ∷ xs) = filter_map-step (h x) (filter_map h xs) (flat_map (λ y. option_to_list (h y)) xs) (filter_map-flat_map h xs)

pub IsPermutation-filter_map : {X Y : Type 0} (h : X → Option Y) (xs ys : List X) → IsPermutation xs ys → IsPermutation (filter_map h xs) (filter_map h ys)
IsPermutation-filter_map h xs ys p =
    IsPermutation-trans _ _ _ (same_is _ _ (filter_map-flat_map h xs))
    (IsPermutation-trans _ _ _ (IsPermutation-flat_map (λ x. option_to_list (h x)) xs ys p) (same_is _ _ (sym (filter_map-flat_map h ys))))

filter-step : {X : Type 0} (b : Bool) (x : X) (ys zs : List X) → ys ≡ zs → cond b (x ∷ ys) ys ≡ cond b (x ∷ []) [] ++ zs
filter-step true x ys zs e = ap (λ xs. x ∷ xs) e
filter-step false x ys zs e = e

filter-flat_map : {X : Type 0} (t : X → Bool) (xs : List X) → filter t xs ≡ flat_map (λ x. cond (t x) (x ∷ []) []) xs
filter-flat_map t [] = refl
filter-flat_map t (x ∷ xs) = filter-step (t x) x (filter t xs) (flat_map (λ y. cond (t y) (y ∷ []) []) xs) (filter-flat_map t xs)

pub IsPermutation-filter : {X : Type 0} (t : X → Bool) (xs ys : List X) → IsPermutation xs ys → IsPermutation (filter t xs) (filter t ys)
IsPermutation-filter t xs ys p =
    IsPermutation-trans _ _ _ (same_is _ _ (filter-flat_map t xs))
    (IsPermutation-trans _ _ _ (IsPermutation-flat_map (λ x. cond (t x) (x ∷ []) []) xs ys p) (same_is _ _ (sym (filter-flat_map t ys))))

-- In a list with one element, the element at each valid index is this element.
one_place : {X : Type 0} (x y : X) (k : ℕ) → k < 1 → get_or (y ∷ []) k x ≡ x → y ≡ x
one_place x y zero l e = e
one_place x y (suc k) l e = absurd (let h : suc k < 1 = l in omega arith)

pub short_is : {X : Type 0} (xs ys : List X) → IsPermutation xs ys → length ys ≤ 1 → xs ≡ ys
short_is [] [] p l = refl
short_is [] (y ∷ ys) p l = absurd (let e : suc (length ys) ≡ 0 = length_permutation [] (y ∷ ys) p in omega arith)
short_is (x ∷ xs) [] p l = absurd (let e : 0 ≡ suc (length xs) = length_permutation (x ∷ xs) [] p in omega arith)
short_is (x ∷ []) (y ∷ []) p l =
    let h : Contains (y ∷ []) x = Contains-permutation (x ∷ []) (y ∷ []) x p (0, omega arith, refl) in
    ap (λ z. z ∷ []) (sym (one_place x y h.0 h.1 h.2))
short_is (x ∷ x' ∷ xs) (y ∷ []) p l = absurd (let e : 1 ≡ suc (suc (length xs)) = length_permutation (x ∷ x' ∷ xs) (y ∷ []) p in omega arith)
short_is (x ∷ xs) (y ∷ y' ∷ ys) p l = absurd (let e : suc (suc (length ys)) ≤ 1 = l in omega arith)
