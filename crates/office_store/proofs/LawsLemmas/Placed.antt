-- Proofs that rows which are numbered by index determine the list of elements that they encode.
use Rattle.std.proofs.Common.{◌≡◌, ℕ, ◌+◌, ◌<◌, ◌≤◌, List, [], ◌∷◌, length, sym, IsPermutation, arith}
use Rattle.std.specs.List.{AllByRecursion, AllZip}
use Rattle.std.proofs.lemmas.List.Elements.{same_from_all_zip}
use Rattle.sqlite_keyed.proofs.ListLemmas.{all_weaker}
use Rattle.office_store.specs.Rows.{placed, placed_on}
use Rattle.office_store.proofs.LawsLemmas.Lists.{InOrder, same_in_order}

-- True if the row `a` has a greater index than the row `b`.
abbrev pub Falls : {Y : Type 0} → (key : Y → ℕ) → Y → Y → Type 0
Falls key a b = key b < key a

abbrev pub Rises : {Y : Type 0} → (key : Y → ℕ) → Y → Y → Type 0
Rises key a b = key a < key b

pub falls_one_way : {Y : Type 0} (key : Y → ℕ) (a b : Y) → Falls key a b → Falls key b a → ⊥
falls_one_way key a b h k = omega arith

rises_one_way : {Y : Type 0} (key : Y → ℕ) (a b : Y) → Rises key a b → Rises key b a → ⊥
rises_one_way key a b h k = omega arith

module _ {X Y : Type 0} (key : Y → ℕ) (row : ℕ → X → Y) (keyed : (place : ℕ) (x : X) → key (row place x) ≡ place) where
  few : (n : ℕ) (xs : List X) → length xs ≤ n → AllByRecursion (λ y. key y ≤ n) (placed row xs)
  few n [] h = tt
  few n (x ∷ xs) h = let k = keyed (length xs + 1) x in (omega (arith, k), few n xs (omega arith))

  placed_fall : (xs : List X) → InOrder (Falls key) (placed row xs)
  placed_fall [] = tt
  placed_fall (x ∷ xs) =
      let k = keyed (length xs + 1) x in (
        all_weaker (λ y. key y ≤ length xs) (Falls key (row (length xs + 1) x)) (λ y h. omega (arith, k)) (placed row xs) (few (length xs) xs (omega arith)),
        placed_fall xs,
      )

  many : (n before : ℕ) (xs : List X) → n ≤ before → AllByRecursion (λ y. n < key y) (placed_on row before xs)
  many n before [] h = tt
  many n before (x ∷ xs) h = let k = keyed (before + 1) x in (omega (arith, k), many n (before + 1) xs (omega arith))

  placed_rise : (before : ℕ) (xs : List X) → InOrder (Rises key) (placed_on row before xs)
  placed_rise before [] = tt
  placed_rise before (x ∷ xs) =
      let k = keyed (before + 1) x in (
        all_weaker (λ y. before + 1 < key y) (Rises key (row (before + 1) x)) (λ y h. omega (arith, k)) (placed_on row (before + 1) xs) (many (before + 1) (before + 1) xs (omega arith)),
        placed_rise (before + 1) xs,
      )

-- Suppose that the relation `R` holds between two elements with equal rows. If the numbered rows of
-- two lists are equal, `R` holds between the lists' elements at each index.
module _ {X Y : Type 0} (row other : ℕ → X → Y) (R : X → X → Type 0) (reports : (m n : ℕ) (x y : X) → row m x ≡ other n y → R x y) where
  zip_placed : (xs ys : List X) → placed row xs ≡ placed other ys → AllZip R xs ys
  zip_placed [] [] e = tt
  zip_placed [] (y ∷ ys) e = absurd (let h = e in cc)
  zip_placed (x ∷ xs) [] e = absurd (let h = e in cc)
  zip_placed (x ∷ xs) (y ∷ ys) e =
      let head : row (length xs + 1) x ≡ other (length ys + 1) y = cc in
      let rest : placed row xs ≡ placed other ys = cc in
      (reports _ _ x y head, zip_placed xs ys rest)

  zip_placed_on : (m n : ℕ) (xs ys : List X) → placed_on row m xs ≡ placed_on other n ys → AllZip R xs ys
  zip_placed_on m n [] [] e = tt
  zip_placed_on m n [] (y ∷ ys) e = absurd (let h = e in cc)
  zip_placed_on m n (x ∷ xs) [] e = absurd (let h = e in cc)
  zip_placed_on m n (x ∷ xs) (y ∷ ys) e =
      let head : row (m + 1) x ≡ other (n + 1) y = cc in
      let rest : placed_on row (m + 1) xs ≡ placed_on other (n + 1) ys = cc in
      (reports _ _ x y head, zip_placed_on (m + 1) (n + 1) xs ys rest)

  module _ (key : Y → ℕ) (keyed : (place : ℕ) (x : X) → key (row place x) ≡ place) (other_keyed : (place : ℕ) (x : X) → key (other place x) ≡ place) where
    pub placed_alike : (xs ys : List X) → IsPermutation (placed row xs) (placed other ys) → AllZip R xs ys
    placed_alike xs ys h =
        zip_placed xs ys (same_in_order (Falls key) (falls_one_way key) (placed row xs) (placed other ys) (placed_fall key row keyed xs) (placed_fall key other other_keyed ys) h)

    pub placed_on_alike : (xs ys : List X) → IsPermutation (placed_on row 0 xs) (placed_on other 0 ys) → AllZip R xs ys
    placed_on_alike xs ys h =
        zip_placed_on 0 0 xs ys
        (same_in_order (Rises key) (rises_one_way key) (placed_on row 0 xs) (placed_on other 0 ys) (placed_rise key row keyed 0 xs) (placed_rise key other other_keyed 0 ys) h)

-- Suppose that the rows of two lists, each with the index of its element, are the same rows in any
-- order. If each row determines its element, the lists are equal.
pub placed_same : {X Y : Type 0} (row : ℕ → X → Y) (reports : (m n : ℕ) (x y : X) → row m x ≡ row n y → x ≡ y) (key : Y → ℕ)
    (keyed : (place : ℕ) (x : X) → key (row place x) ≡ place) (xs ys : List X) → IsPermutation (placed row xs) (placed row ys) → xs ≡ ys
placed_same row reports key keyed xs ys h =
    sym (same_from_all_zip (λ x y. x ≡ y) xs ys (placed_alike row row (λ x y. x ≡ y) reports key keyed keyed xs ys h) (λ x y e. sym e))
