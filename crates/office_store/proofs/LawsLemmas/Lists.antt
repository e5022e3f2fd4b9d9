-- Proofs that two lists are equal if they have the same elements and the same order.
use Rattle.std.proofs.Common.{◌≡◌, ◌⊎◌, Bool, List, [], ◌∷◌, map, filter, inl, inr, refl, sym, ap₂, subst, ◌∙◌, Option, Some, IsPermutation}
use Rattle.std.specs.List.{AllByRecursion, AllZip, Contains, find}
use Rattle.std.proofs.lemmas.Bool.{cases_Bool, cond-true, cond-false}
use Rattle.std.proofs.lemmas.Option.{same_Some}
use Rattle.std.proofs.lemmas.List.Elements.{All-from_recursion, recursion_from_All, All-contains}
use Rattle.std.proofs.lemmas.List.Sorted.{IsPermutation-sym, IsPermutation-trans, All-permutation}
use Rattle.sqlite_keyed.proofs.ListLemmas.{all_weaker, all_both, IsPermutation-filter}
use Rattle.store_tables.proofs.Permuted.{unmapped}

-- True if `x` is an element of a list.
abbrev pub Among : {X : Type 0} → X → List X → Type 0
Among x [] = ⊥
Among x (y ∷ ys) = (x ≡ y) ⊎ Among x ys

among_itself : {X : Type 0} (xs : List X) → AllByRecursion (λ x. Among x xs) xs
among_itself [] = tt
among_itself (x ∷ xs) = (inl refl, all_weaker (λ y. Among y xs) (λ y. Among y (x ∷ xs)) (λ y there. inr there) xs (among_itself xs))

pub all_among : {X : Type 0} (P : X → Type 0) (xs : List X) (x : X) → AllByRecursion P xs → Among x xs → P x
all_among P [] x h there = absurd there
all_among P (y ∷ ys) x h (inl is) = subst P (sym is) h.0
all_among P (y ∷ ys) x h (inr there) = all_among P ys x h.1 there

pub among_contained : {X : Type 0} (xs : List X) (x : X) → Contains xs x → Among x xs
among_contained xs x h = All-contains (λ y. Among y xs) xs x (All-from_recursion (λ y. Among y xs) xs (among_itself xs)) h

pub among_permuted : {X : Type 0} (xs ys : List X) → IsPermutation xs ys → AllByRecursion (λ x. Among x ys) xs
among_permuted xs ys h =
    recursion_from_All (λ x. Among x ys) xs
    (All-permutation (λ x. Among x ys) ys xs (IsPermutation-sym xs ys h) (All-from_recursion (λ x. Among x ys) ys (among_itself ys)))

-- If all elements of a list have the property `P`, each element of the mapped list is `f x` for
-- some `x` with `P`.
pub among_map : {X Y : Type 0} (f : X → Y) (P : X → Type 0) (xs : List X) (y : Y) → AllByRecursion P xs → Among y (map f xs) → (x : X) × P x × (y ≡ f x)
among_map f P [] y h there = absurd there
among_map f P (x ∷ xs) y h (inl is) = (x, h.0, is)
among_map f P (x ∷ xs) y h (inr there) = among_map f P xs y h.1 there

-- True if the relation `Before` holds between each element of a list and all later elements.
abbrev pub InOrder : {X : Type 0} → (Before : X → X → Type 0) → List X → Type 0
InOrder Before [] = Unit {0}
InOrder Before (x ∷ xs) = AllByRecursion (Before x) xs × InOrder Before xs

-- Proofs that two lists that are sorted by an asymmetric order are equal if they have the same
-- elements.
module _ {X : Type 0} (Before : X → X → Type 0) (one_way : (x y : X) → Before x y → Before y x → ⊥) where
  same_head : (x y : X) (xs ys : List X) → InOrder Before (x ∷ xs) → InOrder Before (y ∷ ys) → Among x (y ∷ ys) → Among y (x ∷ xs) → x ≡ y
  same_head x y xs ys h k (inl is) other = is
  same_head x y xs ys h k (inr there) (inl is) = sym is
  same_head x y xs ys h k (inr there) (inr here) = absurd (one_way x y (all_among (Before x) xs y h.0 here) (all_among (Before y) ys x k.0 there))

  -- If an element of a list differs from the first element, the list without its first element has
  -- the element.
  not_first : (x y z : X) (ys : List X) → x ≡ y → Before x z → Among z (y ∷ ys) → Among z ys
  not_first x y z ys e before (inl is) = absurd (let b : Before x x = subst (Before x) (is ∙ sym e) before in one_way x x b b)
  not_first x y z ys e before (inr there) = there

  same_elements : (xs ys : List X) → InOrder Before xs → InOrder Before ys → AllByRecursion (λ x. Among x ys) xs → AllByRecursion (λ y. Among y xs) ys → xs ≡ ys
  same_elements [] [] h k there here = refl
  same_elements [] (y ∷ ys) h k there here = absurd here.0
  same_elements (x ∷ xs) [] h k there here = absurd there.0
  same_elements (x ∷ xs) (y ∷ ys) h k there here =
      let e : x ≡ y = same_head x y xs ys h k there.0 here.0 in
      ap₂ ◌∷◌ e
      (same_elements xs ys h.1 k.1
      (all_both (Before x) (λ z. Among z (y ∷ ys)) (λ z. Among z ys) (λ z before. not_first x y z ys e before) xs h.0 there.1)
      (all_both (Before y) (λ z. Among z (x ∷ xs)) (λ z. Among z xs) (λ z before. not_first y x z xs (sym e) before) ys k.0 here.1))

  -- If two lists are both sorted by the order `Before`, and one is a permutation of the other, then
  -- they are equal.
  pub same_in_order : (xs ys : List X) → InOrder Before xs → InOrder Before ys → IsPermutation xs ys → xs ≡ ys
  same_in_order xs ys h k p = same_elements xs ys h k (among_permuted xs ys p) (among_permuted ys xs (IsPermutation-sym xs ys p))

-- Lemmas on injective functions: if two lists are equal after an injective function is applied to
-- each element, the lists are equal.

abbrev pub IsInjective : {X Y : Type 0} → (X → Y) → Type 0
IsInjective {X} f = (x y : X) → f x ≡ f y → x ≡ y

pub undone : {X Y : Type 0} (f : X → Y) (back : Y → Option X) → ((x : X) → back (f x) ≡ Some x) → IsInjective f
undone f back reads x y e = same_Some x y (sym (reads x) ∙ (λ i. back (e i)) ∙ reads y)

map_undone : {X Y : Type 0} (f : X → Y) → IsInjective f → (xs ys : List X) → map f xs ≡ map f ys → xs ≡ ys
map_undone f one [] [] e = refl
map_undone f one [] (y ∷ ys) e = absurd (let h = e in cc)
map_undone f one (x ∷ xs) [] e = absurd (let h = e in cc)
map_undone f one (x ∷ xs) (y ∷ ys) e =
    let head : f x ≡ f y = cc in
    let rest : map f xs ≡ map f ys = cc in
    ap₂ ◌∷◌ (one x y head) (map_undone f one xs ys rest)

pub permuted_back : {X Y : Type 0} (f : X → Y) → IsInjective f → (xs ys : List X) → IsPermutation (map f xs) (map f ys) → IsPermutation xs ys
permuted_back f one xs ys h = let moved = unmapped f xs (map f ys) h in subst (IsPermutation xs) (sym (map_undone f one ys moved.0 moved.2)) moved.1

-- If two lists are stored as the same table rows, and each row determines its element, the lists
-- have the same elements.
pub one_table : {X Y : Type 0} (columns : X → Y) → IsInjective columns → (xs ys : List X) (rows : List Y)
    → IsPermutation (map columns xs) rows → IsPermutation (map columns ys) rows → IsPermutation xs ys
one_table columns one xs ys rows h k =
    permuted_back columns one xs ys (IsPermutation-trans (map columns xs) rows (map columns ys) h (IsPermutation-sym (map columns ys) rows k))

-- If the elements of two lists are related at each index, and related elements are equal, then the
-- lists are equal.
pub same_by_parts : {X : Type 0} (R : X → X → Type 0) (P Q : X → Type 0) → ((x y : X) → R x y → P x → Q y → x ≡ y)
    → (xs ys : List X) → AllZip R xs ys → AllByRecursion P xs → AllByRecursion Q ys → xs ≡ ys
same_by_parts R P Q same [] [] h p q = refl
same_by_parts R P Q same [] (y ∷ ys) h p q = absurd h
same_by_parts R P Q same (x ∷ xs) [] h p q = absurd h
same_by_parts R P Q same (x ∷ xs) (y ∷ ys) h p q = ap₂ ◌∷◌ (same x y h.0 p.0 q.0) (same_by_parts R P Q same xs ys h.1 p.1 q.1)

-- If two tables have the same rows, the rows of both tables that pass a test are the same, up to
-- order.
pub of_passing : {X : Type 0} (p : X → Bool) (rows others xs ys : List X) → IsPermutation rows others
    → IsPermutation (filter p rows) xs → IsPermutation (filter p others) ys → IsPermutation xs ys
of_passing p rows others xs ys h k l =
    IsPermutation-trans xs (filter p rows) ys (IsPermutation-sym (filter p rows) xs k)
    (IsPermutation-trans (filter p rows) (filter p others) ys (IsPermutation-filter p rows others h) l)

pub found_has : {X : Type 0} (P : X → Type 0) (p : X → Bool) (xs : List X) (x : X) → AllByRecursion P xs → find p xs ≡ Some x → P x
found_has P p [] x h there = absurd (let e = there in cc)
found_has P p (y ∷ ys) x h there =
    elim (cases_Bool (p y)) [
      | inl is ↦ subst P (same_Some y x (sym (cond-true _ _ _ is) ∙ there)) h.0
      | inr off ↦ found_has P p ys x h.1 (sym (cond-false _ _ _ off) ∙ there)
    ]
