-- The stored rows of a table, which begin with their rowid, and the values that these rows encode.
use Rattle.std.proofs.Common.{◌≡◌, inl, inr, ℤ, List, [], ◌∷◌, map, filter, Bool, true, false, not, if◌then◌else◌, refl, sym, ap, ap₂, ◌∙◌, subst, IsPermutation}
use Rattle.std.specs.List.{AllByRecursion}
use Rattle.std.proofs.lemmas.Bool.{cases_Bool}
use Rattle.std.proofs.lemmas.List.Sorted.{IsPermutation-sym, IsPermutation-trans, IsPermutation-map, IsPermutation-cons}
use Rattle.sqlite.specs.declared.types.Value.TheVariants.{Null, Int}
use Rattle.sqlite.specs.Order.{Row}
use Rattle.sqlite.specs.Tree.{rowid}
use Rattle.sqlite_keyed.proofs.ListLemmas.{map-map, filter-map, IsPermutation-filter}
use Rattle.store_tables.specs.Content.{reported, id_of, changed_where, without_where}
use Rattle.store_tables.proofs.Permuted.{unmapped}
use Rattle.store_tables.proofs.Edits.{changed}

-- The stored row with the given columns: the rowid is put before the columns, unless they already
-- begin with the rowid.
abbrev pub laid : Bool → ℤ → Row → Row
laid true n columns = columns
laid false n columns = Int n ∷ columns

pub reported_laid : (numbered : Bool) (n : ℤ) (columns : Row) → reported numbered (laid numbered n columns) ≡ columns
reported_laid true n columns = refl
reported_laid false n columns = refl

abbrev pub Numbered : Type 0 → Type 0
Numbered X = ℤ × X

module _ {X : Type 0} (numbered : Bool) (columns : X → Row) where
  abbrev pub lay : Numbered X → Row
  lay z = laid numbered z.0 (columns z.1)

  -- True if the stored rows `kept` encode the values `xs`, in any order.
  pub record IsLaid (kept : List Row) (xs : List X) : Type 0 where
    pub all : List (Numbered X)
    pub rows : kept ≡ map lay all
    pub same : IsPermutation (map (λ (z : Numbered X). z.1) all) xs

  stored : (r : Row) (x : X) → rowid r ≡ Int (id_of r) → reported numbered r ≡ columns x → r ≡ laid numbered (id_of r) (columns x)
  stored = go numbered
    where
      go : (b : Bool) (r : Row) (x : X) → rowid r ≡ Int (id_of r) → reported b r ≡ columns x → r ≡ laid b (id_of r) (columns x)
      go true r x keyed is = is
      go false [] x keyed is = absurd (let e : Null ≡ Int (id_of []) = keyed in cc)
      go false (v ∷ vs) x keyed is = ap₂ ◌∷◌ keyed is

  paired : (rows : List Row) (ys : List X) → AllByRecursion (λ r. rowid r ≡ Int (id_of r)) rows → map (reported numbered) rows ≡ map columns ys
      → (all : List (Numbered X)) × (rows ≡ map lay all) × (map (λ (z : Numbered X). z.1) all ≡ ys)
  paired [] [] keyed is = ([], refl, refl)
  paired [] (y ∷ ys) keyed is = absurd (let e = is in cc)
  paired (r ∷ rows) [] keyed is = absurd (let e = is in cc)
  paired (r ∷ rows) (y ∷ ys) keyed is =
      let rest = paired rows ys keyed.1 cc in
      ((id_of r, y) ∷ rest.0, ap₂ ◌∷◌ (stored r y keyed.0 cc) rest.1, ap (λ zs. y ∷ zs) rest.2)

  pub laid_from : (rows cols : List Row) (xs : List X) → AllByRecursion (λ r. rowid r ≡ Int (id_of r)) rows → IsPermutation (map (reported numbered) rows) cols → IsPermutation (map columns xs) cols → IsLaid rows xs
  laid_from rows cols xs keyed reported_as has =
      let found = unmapped columns xs (map (reported numbered) rows) (IsPermutation-trans _ _ _ has (IsPermutation-sym _ _ reported_as)) in
      let all = paired rows found.0 keyed found.2 in
      record { all = all.0; rows = all.1; same = subst (λ ys. IsPermutation ys xs) (sym all.2) (IsPermutation-sym _ _ found.1) }

  reported_all : (all : List (Numbered X)) → map (reported numbered) (map lay all) ≡ map columns (map (λ (z : Numbered X). z.1) all)
  reported_all [] = refl
  reported_all (z ∷ all) = ap₂ ◌∷◌ (reported_laid numbered z.0 (columns z.1)) (reported_all all)

  pub laid_reported : (rows : List Row) (xs : List X) → IsLaid rows xs → IsPermutation (map columns xs) (map (reported numbered) rows)
  laid_reported rows xs h =
      subst (IsPermutation (map columns xs)) (sym (ap (map (reported numbered)) h.rows ∙ reported_all h.all)) (IsPermutation-map columns _ _ (IsPermutation-sym _ _ h.same))

  pub laid_permuted : (rows more : List Row) (xs : List X) → IsPermutation rows more → IsLaid rows xs → IsLaid more xs
  laid_permuted rows more xs moved h =
      let found = unmapped lay h.all more (subst (λ rs. IsPermutation rs more) h.rows moved) in
      record { all = found.0; rows = found.2; same = IsPermutation-trans _ _ _ (IsPermutation-sym _ _ (IsPermutation-map (λ (z : Numbered X). z.1) _ _ found.1)) h.same }

  pub laid_more : (rows : List Row) (xs : List X) (n : ℤ) (x : X) → IsLaid rows xs → IsLaid (laid numbered n (columns x) ∷ rows) (x ∷ xs)
  laid_more rows xs n x h = record { all = (n, x) ∷ h.all; rows = ap (λ rs. laid numbered n (columns x) ∷ rs) h.rows; same = IsPermutation-cons x _ _ h.same }

  module _ (test : Row → Bool) (p : X → Bool) (reports : (n : ℤ) (x : X) → test (laid numbered n (columns x)) ≡ p x) where
    -- If a test of stored rows gives the same results as the test `p` of the encoded values, the
    -- rows that pass encode exactly the passing values.
    chosen : (all : List (Numbered X)) → filter test (map lay all) ≡ map lay (filter (λ (z : Numbered X). p z.1) all)
    chosen [] = refl
    chosen (z ∷ all) = elim (cases_Bool (p z.1)) [
      | inl yes_p ↦ rw (reports z.0 z.1, yes_p) (ap (λ rs. lay z ∷ rs) (chosen all))
      | inr no_p ↦ rw (reports z.0 z.1, no_p) (chosen all)
    ]

    others : (all : List (Numbered X)) → filter (λ r. not (test r)) (map lay all) ≡ map lay (filter (λ (z : Numbered X). not (p z.1)) all)
    others [] = refl
    others (z ∷ all) = elim (cases_Bool (p z.1)) [
      | inl yes_p ↦ rw (reports z.0 z.1, yes_p) (others all)
      | inr no_p ↦ rw (reports z.0 z.1, no_p) (ap (λ rs. lay z ∷ rs) (others all))
    ]

    pub laid_chosen : (rows : List Row) (xs : List X) → IsLaid rows xs → IsLaid (filter test rows) (filter p xs)
    laid_chosen rows xs h = record {
      all = filter (λ (z : Numbered X). p z.1) h.all;
      rows = ap (filter test) h.rows ∙ chosen h.all;
      same = subst (λ ys. IsPermutation ys (filter p xs)) (filter-map p (λ (z : Numbered X). z.1) h.all) (IsPermutation-filter p _ _ h.same);
    }

    pub laid_others : (rows : List Row) (xs : List X) → IsLaid rows xs → IsLaid (filter (λ r. not (test r)) rows) (without_where p xs)
    laid_others rows xs h = record {
      all = filter (λ (z : Numbered X). not (p z.1)) h.all;
      rows = ap (filter (λ r. not (test r))) h.rows ∙ others h.all;
      same = subst (λ ys. IsPermutation ys (without_where p xs)) (filter-map (λ x. not (p x)) (λ (z : Numbered X). z.1) h.all) (IsPermutation-filter (λ x. not (p x)) _ _ h.same);
    }

    module _ (made : Row → Row) (f : X → X) (makes : (n : ℤ) (x : X) → made (laid numbered n (columns x)) ≡ laid numbered n (columns (f x))) where
      abbrev changes : X → X
      changes x = if p x then f x else x

      one_changed : (z : Numbered X) → changed test made (lay z) ≡ lay (z.0, changes z.1)
      one_changed z = elim (cases_Bool (p z.1)) [
        | inl yes_p ↦ rw (reports z.0 z.1, yes_p) (makes z.0 z.1)
        | inr no_p ↦ rw (reports z.0 z.1, no_p) refl
      ]

      all_changed : (all : List (Numbered X)) → map (changed test made) (map lay all) ≡ map lay (map (λ (z : Numbered X). (z.0, changes z.1)) all)
      all_changed [] = refl
      all_changed (z ∷ all) = ap₂ ◌∷◌ (one_changed z) (all_changed all)

      pub laid_changed : (rows : List Row) (xs : List X) → IsLaid rows xs → IsLaid (map (changed test made) rows) (changed_where p f xs)
      laid_changed rows xs h = record {
        all = map (λ (z : Numbered X). (z.0, changes z.1)) h.all;
        rows = ap (map (changed test made)) h.rows ∙ all_changed h.all;
        same = subst (λ ys. IsPermutation ys (changed_where p f xs)) (map-map changes (λ (z : Numbered X). z.1) h.all ∙ sym (map-map (λ (z : Numbered X). z.1) (λ (z : Numbered X). (z.0, changes z.1)) h.all)) (IsPermutation-map changes _ _ h.same);
      }
