-- Lemmas on the time zone in the table `meta`: a query for all rows of a table with one row always
-- returns the same row.
use Rattle.std.proofs.Common.{◌≡◌, ◌<◌, ℕ, suc, List, [], ◌∷◌, Option, Some, None, filter, map, length, String, refl, sym, ap, subst, ◌∙◌, arith}
use Rattle.std.specs.List.{All}
use Rattle.std.specs.List.Sorted.{IsPermutation}
use Rattle.std.proofs.lemmas.List.Elements.{All-cons, All-nil}
use Rattle.std.proofs.lemmas.List.Sorted.{All-permutation, IsPermutation-sym, length_permutation}
use Rattle.sqlite.specs.Order.{Row}
use Rattle.store_tables.specs.Answer.{every}
use Rattle.store_tables.specs.Content.{Content}
use Rattle.store_tables.specs.Meta.{meta}
use Rattle.table_audit.specs.FileMark.{FindsZone, ReadsZone, ShowsMarks, mark_shown}

-- Lemmas on lists with one element.

one_of_them : {X : Type 0} (x : X) (ys : List X) → length ys ≡ 1 → All (λ y. y ≡ x) ys → ys ≡ x ∷ []
one_of_them x [] one all = absurd (let g : 0 ≡ 1 = one in omega (arith, g))
one_of_them x (y ∷ []) one all = ap (λ z. z ∷ []) (all 0 x (omega arith))
one_of_them x (y ∷ z ∷ ys) one all = absurd (let g : suc (suc (length ys)) ≡ 1 = one in omega (arith, g))

one_permuted : {X : Type 0} (xs : List X) (x : X) (ys : List X) → IsPermutation xs (x ∷ []) → IsPermutation xs ys → ys ≡ x ∷ []
one_permuted xs x ys to_one to_them =
    let here : All (λ y. y ≡ x) (x ∷ []) = All-cons (λ y. y ≡ x) x [] refl (All-nil (λ y. y ≡ x)) in
    let among : All (λ y. y ≡ x) xs = All-permutation (λ y. y ≡ x) (x ∷ []) xs (IsPermutation-sym xs (x ∷ []) to_one) here in
    one_of_them x ys (length_permutation xs ys to_them ∙ sym (length_permutation xs (x ∷ []) to_one))
    (All-permutation (λ y. y ≡ x) xs ys to_them among)

mapped_one : {X Y : Type 0} (f : X → Y) (xs : List X) (y : Y) → map f xs ≡ y ∷ [] → (x : X) × (xs ≡ x ∷ [])
mapped_one f [] y is = absurd (let g : [] ≡ y ∷ [] = is in cc)
mapped_one f (x ∷ []) y is = (x, refl)
mapped_one f (x ∷ z ∷ xs) y is = absurd (let g : suc (suc (length (map f xs))) ≡ 1 = ap (λ l. length l) is in omega (arith, g))

-- Lemmas on the time zone in the only row of `meta`.

only_mark : (content : Content) (rows others : List Row) (row : Row) → ShowsMarks content rows → ShowsMarks content others → others ≡ row ∷ [] → rows ≡ row ∷ []
only_mark content rows others row shown other one =
    let single = mapped_one mark_shown other.0 row (sym other.2 ∙ one) in
    let same : shown.0 ≡ single.0 ∷ [] =
    one_permuted (filter every (content meta)) single.0 shown.0 (subst (λ (l : List Row). IsPermutation (filter every (content meta)) l) single.1 other.1.all) shown.1.all in
    shown.2 ∙ ap (map mark_shown) (same ∙ sym single.1) ∙ sym other.2 ∙ one

pub zone_found : {Z : Type 0} (content : Content) (rows : List Row) (found : Option (String Z)) → ShowsMarks content rows → ReadsZone rows found → FindsZone content found
zone_found content rows None shown none =
    λ zone is. none zone (record {
      row = is.row;
      one = only_mark content rows is.rows is.row shown is.shown is.one;
      is = is.is;
      utf8 = is.utf8;
      valid = is.valid;
    })
zone_found content rows (Some zone) shown has = record {
  rows = rows;
  shown = shown;
  row = has.row;
  one = has.one;
  is = has.is;
  utf8 = has.utf8;
  valid = has.valid;
}
