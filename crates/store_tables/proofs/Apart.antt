-- Proofs that the rowids of a table stay distinct after an UPDATE or a DELETE.
use Rattle.std.proofs.Common.{◌≡◌, inl, inr, ℤ, List, [], ◌∷◌, map, filter, Bool, true, false, ◌||◌, refl, sym, ap, subst, ◌∙◌}
use Rattle.std.specs.List.{AllByRecursion}
use Rattle.std.specs.List.Sorted.{IsPermutation}
use Rattle.std.specs.Ordering.{is_eq}
use Rattle.std.proofs.lemmas.List.Sorted.{IsPermutation-map, All-permutation}
use Rattle.std.proofs.lemmas.List.Elements.{All-from_recursion, recursion_from_All}
use Rattle.std.proofs.lemmas.Map.Keys.{IsDistinct-cons, IsDistinct-head, IsDistinct-tail, IsDistinct-IsPermutation}
use Rattle.sqlite_keyed.proofs.ListLemmas.{all-filter}
use Rattle.sqlite.specs.declared.types.Value.{Value}
use Rattle.sqlite.specs.declared.types.Value.TheVariants.{Null, Int, Real, Text, Blob}
use Rattle.sqlite.specs.Order.{Row, value_cmp}
use Rattle.sqlite_value.proofs.OrderLemmas.{value_cmp-Int}
use Rattle.sqlite.specs.Tree.{rowid}
use Rattle.sqlite.specs.Edit.{id_in, is_taken}
use Rattle.sqlite_trees.specs.View.{is_int}
use Rattle.store_tables.specs.Content.{id_of, same_id, AreApart}
use Rattle.store_tables.proofs.Edits.{same_id-flips, changed}
use Rattle.std.proofs.lemmas.Bool.{cases_Bool}
use Rattle.std.specs.List.{IsDistinct}

pub apart_permutation : (rows more : List Row) → IsPermutation rows more → AreApart rows → AreApart more
apart_permutation rows more same apart = record {
  keyed = recursion_from_All (λ r. rowid r ≡ Int (id_of r)) more (All-permutation (λ r. rowid r ≡ Int (id_of r)) rows more same (All-from_recursion (λ r. rowid r ≡ Int (id_of r)) rows apart.keyed));
  distinct = IsDistinct-IsPermutation same_id same_id-flips (map id_of rows) (map id_of more) (IsPermutation-map id_of rows more same) apart.distinct;
}

pub int_is : (v : Value) → is_int v ≡ true → v ≡ Int (id_in v)
int_is Null e = absurd (let f = e in cc)
int_is (Int n) e = refl
int_is (Real x) e = absurd (let f = e in cc)
int_is (Text t) e = absurd (let f = e in cc)
int_is (Blob b) e = absurd (let f = e in cc)

neither : (a b : Bool) → a || b ≡ false → (a ≡ false) × (b ≡ false)
neither true b e = absurd (let f = e in cc)
neither false b e = (refl, e)

free_from : (new : Row) (rows : List Row) → rowid new ≡ Int (id_of new) → AllByRecursion (λ r. rowid r ≡ Int (id_of r)) rows → is_taken rows new ≡ false → AllByRecursion (λ y. same_id (id_of new) y ≡ false) (map id_of rows)
free_from new [] keyed all free = tt
free_from new (r ∷ rows) keyed all free =
    let each = neither (is_eq (value_cmp (rowid r) (rowid new))) (is_taken rows new) free in
    let is : is_eq (value_cmp (rowid r) (rowid new)) ≡ same_id (id_of r) (id_of new) = ap (λ v. is_eq (value_cmp v (rowid new))) all.0 ∙ (ap (λ v. is_eq (value_cmp (Int (id_of r)) v)) keyed ∙ ap is_eq (value_cmp-Int (id_of r) (id_of new))) in
    (same_id-flips (id_of new) (id_of r) ∙ (sym is ∙ each.0), free_from new rows keyed all.1 each.1)

pub apart_more : (new : Row) (rows : List Row) → is_int (rowid new) ≡ true → AreApart rows → is_taken rows new ≡ false → AreApart (new ∷ rows)
apart_more new rows whole apart free =
    let keyed = int_is (rowid new) whole in
    record {
      keyed = (keyed, apart.keyed);
      distinct = IsDistinct-cons same_id (id_of new) (map id_of rows) (free_from new rows keyed apart.keyed free) apart.distinct;
    }

module _ (p : Row → Bool) (f : Row → Row) (keeps : (r : Row) → rowid r ≡ Int (id_of r) → rowid (f r) ≡ rowid r) where
  kept : (r : Row) → rowid r ≡ Int (id_of r) → rowid (changed p f r) ≡ rowid r
  kept r keyed = elim (cases_Bool (p r)) [
    | inl yes_p ↦ rw yes_p (keeps r keyed)
    | inr no_p ↦ rw no_p refl
  ]

  keyed_still : (rows : List Row) → AllByRecursion (λ r. rowid r ≡ Int (id_of r)) rows → AllByRecursion (λ r. rowid r ≡ Int (id_of r)) (map (changed p f) rows)
  keyed_still [] all = tt
  keyed_still (r ∷ rows) all = (kept r all.0 ∙ (all.0 ∙ ap (λ v. Int (id_in v)) (sym (kept r all.0))), keyed_still rows all.1)

  same_all : (rows : List Row) → AllByRecursion (λ r. rowid r ≡ Int (id_of r)) rows → map id_of (map (changed p f) rows) ≡ map id_of rows
  same_all [] all = refl
  same_all (r ∷ rows) all = rw (kept r all.0, same_all rows all.1) refl

  pub changed_apart : (rows : List Row) → AreApart rows → AreApart (map (changed p f) rows)
  changed_apart rows apart = record { keyed = keyed_still rows apart.keyed; distinct = subst (IsDistinct same_id) (sym (same_all rows apart.keyed)) apart.distinct }

-- If a rowid differs from the rowids of all rows, it differs from the rowids of the rows that pass
-- a test.
kept_apart : (p : Row → Bool) (x : ℤ) (rows : List Row) → AllByRecursion (λ y. same_id x y ≡ false) (map id_of rows) → AllByRecursion (λ y. same_id x y ≡ false) (map id_of (filter p rows))
kept_apart p x [] all = tt
kept_apart p x (r ∷ rows) all = elim (cases_Bool (p r)) [
  | inl yes_p ↦ rw yes_p (all.0, kept_apart p x rows all.1)
  | inr no_p ↦ rw no_p (kept_apart p x rows all.1)
]

distinct_left : (p : Row → Bool) (rows : List Row) → IsDistinct same_id (map id_of rows) → IsDistinct same_id (map id_of (filter p rows))
distinct_left p [] apart = apart
distinct_left p (r ∷ rows) apart =
    let rest = distinct_left p rows (IsDistinct-tail same_id (id_of r) (map id_of rows) apart) in
    elim (cases_Bool (p r)) [
      | inl yes_p ↦ rw yes_p (IsDistinct-cons same_id (id_of r) (map id_of (filter p rows)) (kept_apart p (id_of r) rows (IsDistinct-head same_id (id_of r) (map id_of rows) apart)) rest)
      | inr no_p ↦ rw no_p rest
    ]

pub left_apart : (p : Row → Bool) (rows : List Row) → AreApart rows → AreApart (filter p rows)
left_apart p rows apart = record { keyed = all-filter (λ r. rowid r ≡ Int (id_of r)) p rows apart.keyed; distinct = distinct_left p rows apart.distinct }
