-- Proofs about the rows of a table after an UPDATE or a DELETE.
use Rattle.std.proofs.Common.{◌≡◌, inl, inr, ℤ, List, [], ◌∷◌, ◌++◌, map, filter, flat_map, Bool, true, false, cond, not, ◌&&◌, ◌||◌, refl, sym, ap, subst, ◌∙◌, arith, ◌<ℤ◌, if◌then◌else◌}
use Rattle.std.specs.List.{AllByRecursion, IsDistinct, list_any}
use Rattle.std.specs.List.Sorted.{IsPermutation}
use Rattle.std.specs.Cmp.{int_cmp_is, int_ranks}
use Rattle.std.specs.Ordering.{is_eq, int_cmp, MatchOrdering}
use Rattle.std.specs.declared.cmp.Ordering.{Ordering}
use Rattle.std.specs.declared.cmp.Ordering.TheVariants.{Less, Equal, Greater}
use Rattle.std.proofs.lemmas.Int.{ints}
use Rattle.std.proofs.lemmas.Bool.{cases_Bool}
use Rattle.std.proofs.lemmas.List.{map-append}
use Rattle.std.proofs.lemmas.List.Sorted.{IsPermutation-refl, IsPermutation-sym, IsPermutation-trans, IsPermutation-middle, IsPermutation-map, IsPermutation-append_left, IsPermutation-append_right, IsPermutation-filter_both, list_any-IsPermutation}
use Rattle.std.proofs.lemmas.Map.Keys.{IsDistinct-head, IsDistinct-tail}
use Rattle.sqlite.specs.declared.types.Value.TheVariants.{Int}
use Rattle.sqlite.specs.Order.{Row, value_cmp}
use Rattle.sqlite_value.proofs.OrderLemmas.{value_cmp-Int}
use Rattle.sqlite.specs.Tree.{put_row, without_rowid, has_rowid, rowid}
use Rattle.sqlite.specs.Edit.{is_taken, are_fresh, without_all, put_all, numbered}
use Rattle.sqlite.specs.Rowids.TheVariants.{Given}
use Rattle.sqlite_rules.specs.Calls.{ids_of}
use Rattle.store_tables.specs.Content.{id_of, same_id, AreApart}
use Rattle.store_tables.proofs.Fresh.{write_fresh}

abbrev pub picks : List ℤ → Row → Bool
picks ids r = list_any (λ id. has_rowid id r) ids

-- Lemmas: deleting rows one rowid after another leaves the rows whose rowids are not in the list of
-- rowids.

filter_twice : (a b : Row → Bool) (rows : List Row) → filter (λ r. not (b r)) (filter (λ r. not (a r)) rows) ≡ filter (λ r. not (a r || b r)) rows
filter_twice a b [] = refl
filter_twice a b (r ∷ rows) = elim (cases_Bool (a r)) [
  | inl yes_a ↦ rw yes_a (filter_twice a b rows)
  | inr no_a ↦ elim (cases_Bool (b r)) [
    | inl yes_b ↦ rw (no_a, yes_b) (filter_twice a b rows)
    | inr no_b ↦ rw (no_a, no_b) (ap (λ rs. r ∷ rs) (filter_twice a b rows))
  ]
]

none_out : (rows : List Row) → filter (λ (r : Row). true) rows ≡ rows
none_out [] = refl
none_out (r ∷ rows) = ap (λ rs. r ∷ rs) (none_out rows)

without_is : (rows : List Row) (ids : List ℤ) → without_all rows ids ≡ filter (λ r. not (picks ids r)) rows
without_is rows [] = sym (none_out rows)
without_is rows (id ∷ ids) = without_is (without_rowid id rows) ids ∙ filter_twice (has_rowid id) (picks ids) rows

id_is : (m : ℤ) (r : Row) → rowid r ≡ Int (id_of r) → has_rowid m r ≡ same_id (id_of r) m
id_is m r keyed = ap (λ v. is_eq (value_cmp v (Int m))) keyed ∙ ap is_eq (value_cmp-Int (id_of r) m)

itself : (m : ℤ) → same_id m m ≡ true
itself m = ap is_eq (sym (int_cmp_is m m Equal refl))

pub same_id-flips : (x y : ℤ) → same_id x y ≡ same_id y x
same_id-flips x y = go (int_cmp x y) (int_cmp y x) (int_ranks x y) (int_ranks y x)
  where
    go : (o p : Ordering) → MatchOrdering o (x <ℤ y) (x ≡ y) (y <ℤ x) → MatchOrdering p (y <ℤ x) (y ≡ x) (x <ℤ y) → is_eq o ≡ is_eq p
    go Less Less h k = refl
    go Less Greater h k = refl
    go Greater Less h k = refl
    go Greater Greater h k = refl
    go Equal Equal h k = refl
    go Less Equal h k = absurd (omega (arith, ints))
    go Equal Less h k = absurd (omega (arith, ints))
    go Greater Equal h k = absurd (omega (arith, ints))
    go Equal Greater h k = absurd (omega (arith, ints))

module _ (p : Row → Bool) where
  abbrev chosen : List Row → List ℤ
  chosen rows = ids_of (filter p rows)

  -- If a row's rowid differs from the rowids of all rows in a list, it differs from those of the
  -- rows that pass a test.
  none_of : (r : Row) (rows : List Row) → rowid r ≡ Int (id_of r) → AllByRecursion (λ y. same_id (id_of r) y ≡ false) (map id_of rows) → picks (chosen rows) r ≡ false
  none_of r [] keyed apart = refl
  none_of r (s ∷ rows) keyed apart = elim (cases_Bool (p s)) [
    | inl yes_p ↦ rw (yes_p, id_is (id_of s) r keyed, apart.0) (none_of r rows keyed apart.1)
    | inr no_p ↦ rw no_p (none_of r rows keyed apart.1)
  ]

  head_is : (r : Row) (rows : List Row) → rowid r ≡ Int (id_of r) → AllByRecursion (λ y. same_id (id_of r) y ≡ false) (map id_of rows) → picks (chosen (r ∷ rows)) r ≡ p r
  head_is r rows keyed apart = elim (cases_Bool (p r)) [
    | inl yes_p ↦ rw (yes_p, id_is (id_of r) r keyed, itself (id_of r)) refl
    | inr no_p ↦ rw no_p (none_of r rows keyed apart)
  ]

  rest_are : (r : Row) (rows all : List Row) → AllByRecursion (λ s. rowid s ≡ Int (id_of s)) rows → AllByRecursion (λ y. same_id (id_of r) y ≡ false) (map id_of rows)
      → AllByRecursion (λ s. picks (chosen all) s ≡ p s) rows → AllByRecursion (λ s. picks (chosen (r ∷ all)) s ≡ p s) rows
  rest_are r [] all keyed apart are = tt
  rest_are r (s ∷ rows) all keyed apart are = (
    elim (cases_Bool (p r)) [
      | inl yes_p ↦ rw (yes_p, id_is (id_of r) s keyed.0, same_id-flips (id_of s) (id_of r), apart.0) are.0
      | inr no_p ↦ rw no_p are.0
    ],
    rest_are r rows all keyed.1 apart.1 are.1,
  )

  picked_are : (rows : List Row) → AllByRecursion (λ s. rowid s ≡ Int (id_of s)) rows → IsDistinct same_id (map id_of rows) → AllByRecursion (λ s. picks (chosen rows) s ≡ p s) rows
  picked_are [] keyed apart = tt
  picked_are (r ∷ rows) keyed apart =
      let head = IsDistinct-head same_id (id_of r) (map id_of rows) apart in
      (head_is r rows keyed.0 head, rest_are r rows rows keyed.1 head (picked_are rows keyed.1 (IsDistinct-tail same_id (id_of r) (map id_of rows) apart)))

same_filter : (a b : Row → Bool) (rows : List Row) → AllByRecursion (λ r. a r ≡ b r) rows → filter (λ r. not (a r)) rows ≡ filter (λ r. not (b r)) rows
same_filter a b [] all = refl
same_filter a b (r ∷ rows) all = elim (cases_Bool (b r)) [
  | inl yes_b ↦ rw (all.0, yes_b) (same_filter a b rows all.1)
  | inr no_b ↦ rw (all.0, no_b) (ap (λ rs. r ∷ rs) (same_filter a b rows all.1))
]

same_picks : (ids more : List ℤ) (rows : List Row) → IsPermutation ids more → AllByRecursion (λ r. picks more r ≡ picks ids r) rows
same_picks ids more [] same = tt
same_picks ids more (r ∷ rows) same = (sym (list_any-IsPermutation (λ id. has_rowid id r) ids more same), same_picks ids more rows same)

-- If a DELETE removes the rows with the rowids of the rows that pass test `p`, exactly the rows
-- that fail `p` remain.
pub left_are : (p : Row → Bool) (rows : List Row) (ids : List ℤ) → AreApart rows → IsPermutation (ids_of (filter p rows)) ids → without_all rows ids ≡ filter (λ r. not (p r)) rows
left_are p rows ids apart same =
    without_is rows ids ∙ (same_filter (picks ids) (picks (ids_of (filter p rows))) rows (same_picks (ids_of (filter p rows)) ids rows same)
    ∙ same_filter (picks (ids_of (filter p rows))) p rows (picked_are p rows apart.keyed apart.distinct))

-- Lemmas: an UPDATE removes the changed rows and inserts their new versions, with the same rowids.

first_free : (b c : Bool) → not b && c ≡ true → (b ≡ false) × (c ≡ true)
first_free true c e = absurd (let f = e in cc)
first_free false c e = (refl, e)

pub write_many : (news rows : List Row) → are_fresh rows news ≡ true → IsPermutation (news ++ rows) (put_all rows news)
write_many [] rows fresh = IsPermutation-refl rows
write_many (n ∷ news) rows fresh =
    let free = first_free (is_taken rows n) (are_fresh (put_row n rows) news) fresh in
    IsPermutation-trans _ _ _ (IsPermutation-sym _ _ (IsPermutation-middle news n rows))
    (IsPermutation-trans _ _ _ (IsPermutation-append_right news (n ∷ rows) (put_row n rows) (write_fresh n rows free.0)) (write_many news (put_row n rows) free.1))

pub given_are : (rows news : List Row) → numbered Given rows news ≡ news
given_are rows [] = refl
given_are rows (n ∷ news) = ap (λ ns. n ∷ ns) (given_are (put_row n rows) news)

-- Lemmas: an UPDATE changes the rows that pass its test, and no other row.

module _ (p : Row → Bool) (f : Row → Row) where
  abbrev pub changed : Row → Row
  changed r = if p r then f r else r

  chosen_change : (rows : List Row) → map changed (filter p rows) ≡ map f (filter p rows)
  chosen_change [] = refl
  chosen_change (r ∷ rows) = elim (cases_Bool (p r)) [
    | inl yes_p ↦ rw yes_p (rw yes_p (ap (λ rs. f r ∷ rs) (chosen_change rows)))
    | inr no_p ↦ rw no_p (chosen_change rows)
  ]

  others_stay : (rows : List Row) → map changed (filter (λ r. not (p r)) rows) ≡ filter (λ r. not (p r)) rows
  others_stay [] = refl
  others_stay (r ∷ rows) = elim (cases_Bool (p r)) [
    | inl yes_p ↦ rw yes_p (others_stay rows)
    | inr no_p ↦ rw no_p (rw no_p (ap (λ rs. r ∷ rs) (others_stay rows)))
  ]

  pub parted : (rows : List Row) → IsPermutation (map f (filter p rows) ++ filter (λ r. not (p r)) rows) (map changed rows)
  parted rows =
      let both = map-append changed (filter p rows) (filter (λ r. not (p r)) rows) in
      IsPermutation-sym _ _ (subst (IsPermutation (map changed rows)) (both ∙ (ap (λ xs. xs ++ map changed (filter (λ r. not (p r)) rows)) (chosen_change rows) ∙ ap (λ ys. map f (filter p rows) ++ ys) (others_stay rows)))
      (IsPermutation-map changed rows (filter p rows ++ filter (λ r. not (p r)) rows) (IsPermutation-filter_both p (λ r. not (p r)) (λ r. refl) rows)))

  -- An UPDATE replaces each row that passes test `p` by `f` of this row, and leaves all other rows.
  pub edited_rows : (rows news : List Row) (ids : List ℤ) → AreApart rows → IsPermutation (ids_of (filter p rows)) ids → IsPermutation (map f (filter p rows)) news → are_fresh (without_all rows ids) news ≡ true
      → IsPermutation (map changed rows) (put_all (without_all rows ids) news)
  edited_rows rows news ids apart same_ids same_news fresh =
      let left = left_are p rows ids apart same_ids in
      let put = write_many news (without_all rows ids) fresh in
      let joined : IsPermutation (map f (filter p rows) ++ filter (λ r. not (p r)) rows) (news ++ without_all rows ids) =
      subst (λ ls. IsPermutation (map f (filter p rows) ++ filter (λ r. not (p r)) rows) (news ++ ls)) (sym left) (IsPermutation-append_left (filter (λ r. not (p r)) rows) (map f (filter p rows)) news same_news) in
      IsPermutation-trans _ _ _ (IsPermutation-sym _ _ (parted rows)) (IsPermutation-trans _ _ _ joined put)

-- Lemmas: a table scan finds exactly the rows that pass its test.

pub picked : {X : Type 0} (p : Row → Bool) (e : Row → X) (rows : List Row) → flat_map (λ r. cond (p r) (e r ∷ []) []) rows ≡ map e (filter p rows)
picked p e [] = refl
picked p e (r ∷ rows) = elim (cases_Bool (p r)) [
  | inl yes_p ↦ rw yes_p (ap (λ es. e r ∷ es) (picked p e rows))
  | inr no_p ↦ rw no_p (picked p e rows)
]
