-- Proofs that a SELECT from one table returns the rows that pass its WHERE test, in the order of
-- its ORDER BY clause, up to its LIMIT.
use Rattle.std.proofs.Common.{◌≡◌, ◌≤◌, ◌<ℤ◌, ℕ, ℤ, suc, pos, List, [], ◌∷◌, map, filter, drop, take, length, Bool, true, false, Option, Some, None, option_map, slice_get, Ordering, Less, Equal, Greater, is_lt, is_gt, refl, sym, ap, subst, ◌∙◌, arith, IsPermutation, IsSorted}
use Rattle.std.specs.List.{AllByRecursion}
use Rattle.std.specs.Cmp.{IsTotalOrder}
use Rattle.std.specs.Ordering.{ordering_reverse, ordering_then, int_cmp, MatchOrdering}
use Rattle.std.specs.Cmp.{int_ranks}
use Rattle.std.proofs.lemmas.Int.{ints}
use Rattle.sqlite.specs.Order.{value_cmp}
use Rattle.sqlite_value.proofs.OrderLemmas.{value_cmp-Int, then-Equal}
use Rattle.std.proofs.lemmas.Cmp.{upto}
use Rattle.std.proofs.lemmas.List.Sorted.{IsPermutation-sym, IsPermutation-trans, IsPermutation-map, length_permutation}
use Rattle.sqlite.specs.declared.types.Value.TheVariants.{Null, Int}
use Rattle.sqlite.specs.Order.{Row}
use Rattle.sqlite_value.specs.declared.keys.Key.{Key}
use Rattle.sqlite.specs.Term.{Term}
use Rattle.sqlite.specs.Query.{Query, IsAnswer, Output, output, output_cmp, page}
use Rattle.sqlite.specs.Program.{overlay}
use Rattle.sqlite.specs.Tree.{Trees, IsAscending}
use Rattle.sqlite_sql.proofs.QueryLemmas.{output_cmp_total}
use Rattle.sqlite_keyed.proofs.ListLemmas.{all_weaker, ascending-map, ascending_from_map, ascending_weaker}
use Rattle.sqlite.specs.Command.TheVariants.{Select}
use Rattle.sqlite.specs.Listing.{understood, reads_listing}
use Rattle.sqlite.specs.State.{State, Shown}
use Rattle.sqlite.proofs.Callers.{IsPlain, command_of, reads_as}
use Rattle.store_tables.specs.Schema.{books_schema}
use Rattle.store_tables.specs.Content.{Content, HasTree, AreTables, HasRows, is_numbered}
use Rattle.store_tables.specs.Answer.{AreFound, IsFound, IsLast, LastFirst}
use Rattle.store_tables.proofs.Permuted.{unmapped}
use Rattle.store_tables.proofs.Laid.{Numbered, laid, lay, IsLaid, laid_from, laid_chosen}
use Rattle.store_tables.proofs.Scans.{scan, env, passes, shows, kept_are}

-- Lemmas: in a list that SQLite sorted, no element precedes a smaller one.

module _ {X : Type 0} (cmp : X → X → Ordering) (total : IsTotalOrder cmp) where
  abbrev AtMost : X → X → Type 0
  AtMost a b = is_gt (cmp a b) ≡ false

  turned : (o : Ordering) → is_lt o ≡ false → is_gt (ordering_reverse o) ≡ false
  turned Less h = h
  turned Equal h = refl
  turned Greater h = refl

  below_all : (x : X) (ys : List X) → IsSorted cmp (x ∷ ys) → IsAscending AtMost ys → AllByRecursion (AtMost x) ys
  below_all x [] sorted up = tt
  below_all x (y ∷ ys) sorted up =
      let first : AtMost x y = ap is_gt (total.antisymm x y) ∙ turned _ (sorted 0 x (omega arith) (omega arith)) in
      (first, all_weaker _ (AtMost x) (λ z. upto total x y z first) ys up.0)

  pub ascends : (xs : List X) → IsSorted cmp xs → IsAscending AtMost xs
  ascends [] sorted = tt
  ascends (x ∷ xs) sorted =
      let tail : IsSorted cmp xs = λ k d p q. rw Rattle.std.proofs.Common.add-one (rw Rattle.std.proofs.Common.add-one at (sorted (suc k) d (omega arith) (omega arith))) in
      let up = ascends xs tail in
      (below_all x xs sorted up, up)

-- Lemmas: a SELECT with WHERE, ORDER BY and LIMIT returns the rows that pass the WHERE test, in the
-- order of the ORDER BY clause.

module _ {X : Type 0} (tree : ℕ) (tests project : List Term) (order : List (Term × Key)) (limit : Term) (params : Row) (columns : X → Row) (p : X → Bool) (shown : X → Row) (R : X → X → Type 0)
    (reports : (n : ℤ) (x : X) → passes params tests (laid (is_numbered tree) n (columns x)) ≡ p x) (reports_columns : (n : ℤ) (x : X) → shows params project (laid (is_numbered tree) n (columns x)) ≡ shown x)
    (ranks : (m n : ℤ) (x y : X) → is_gt (output_cmp (scan tree tests project order limit) (output (scan tree tests project order limit) (env params (laid (is_numbered tree) m (columns x))))
    (output (scan tree tests project order limit) (env params (laid (is_numbered tree) n (columns y))))) ≡ false → R x y) where
  abbrev query : Query
  query = scan tree tests project order limit

  abbrev out : Numbered X → Output
  out z = output query (env params (laid (is_numbered tree) z.0 (columns z.1)))

  outs : (all : List (Numbered X)) → map (λ r. output query (env params r)) (map (lay (is_numbered tree) columns) all) ≡ map out all
  outs [] = refl
  outs (z ∷ all) = ap (λ os. out z ∷ os) (outs all)

  shown_all : (all : List (Numbered X)) → map (λ (o : Output). o.1) (map out all) ≡ map shown (map (λ (z : Numbered X). z.1) all)
  shown_all [] = refl
  shown_all (z ∷ all) = ap (λ r. r ∷ map (λ (o : Output). o.1) (map out all)) (reports_columns z.0 z.1) ∙ ap (λ rs. shown z.1 ∷ rs) (shown_all all)

  pub selected : (db : Trees) (rows : List Row) (xs : List X) → IsLaid (is_numbered tree) columns (db tree) xs → IsAnswer query (overlay db []) params rows
      → (found : List X) × AreFound p R xs found × (rows ≡ page query params (map shown found))
  selected db rows xs lies a =
      let chosen = laid_chosen (is_numbered tree) columns (passes params tests) p reports (db tree) xs lies in
      let kept : a.kept ≡ map out chosen.all = kept_are params tree tests project order limit db rows a ∙ (ap (map (λ r. output query (env params r))) chosen.rows ∙ outs chosen.all) in
      let moved = unmapped out chosen.all a.ordered (subst (λ os. IsPermutation os a.ordered) kept a.same) in
      let up = ascending_weaker _ (λ (z w : Numbered X). R z.1 w.1) (λ (z w : Numbered X) le. ranks z.0 w.0 z.1 w.1 le) moved.0
      (ascending_from_map _ out moved.0 (subst (IsAscending (λ x y. is_gt (output_cmp query x y) ≡ false)) moved.2 (ascends (output_cmp query) (output_cmp_total query) a.ordered a.sorted))) in (
        map (λ (z : Numbered X). z.1) moved.0,
        record {
          all = IsPermutation-trans _ _ _ (IsPermutation-sym _ _ chosen.same) (IsPermutation-map (λ (z : Numbered X). z.1) _ _ moved.1);
          order = ascending-map R (λ (z : Numbered X). z.1) moved.0 up;
        },
        a.shown ∙ ap (page query params) (ap (map (λ (o : Output). o.1)) moved.2 ∙ shown_all moved.0),
      )

  -- If an SQL text compiles to a SELECT from one table of the store, its result has the rows that
  -- pass the WHERE test. The rows are in the order of the ORDER BY clause.
  pub selects : (old new : State) (text : List ℕ) (names : List (List ℕ)) (content : Content) (xs : List X) (rows : List Row) → HasTree books_schema.tables tree → AreTables old.now content → HasRows tree columns xs content
      → command_of (understood books_schema text) ≡ Select (record { lets = []; body = query }) names → reads_listing books_schema text ≡ false → IsPlain (understood books_schema text)
      → Shown text params old new rows → (found : List X) × AreFound p R xs found × (rows ≡ page query params (map shown found))
  selects old new text names content xs rows there has are is unlisted plain h =
      let got = reads_as text params old new books_schema has.schema _ is plain unlisted rows h in
      let apart = has.apart tree there in
      selected old.now.trees rows xs (laid_from (is_numbered tree) columns (old.now.trees tree) (content tree) xs apart.keyed (has.rows tree there) are) (got.answer Null)

-- Lemmas: if a SELECT has LIMIT 1, its result has the first row (by ORDER BY) that passes the WHERE
-- test, or no row.

empty_only : {X : Type 0} (xs : List X) → IsPermutation xs [] → xs ≡ []
empty_only [] same = refl
empty_only (x ∷ xs) same = absurd (omega (arith, length_permutation _ _ same))

module _ {X A : Type 0} (passes : X → Bool) (IsSeen : X → A → Type 0) where
  pub found_none : (Later : X → X → Type 0) (xs found : List X) → AreFound passes Later xs found → slice_get found 0 ≡ None → IsFound passes IsSeen xs None
  found_none Later xs [] h is = empty_only _ h.all
  found_none Later xs (x ∷ found) h is = absurd (let e = is in cc)

  pub found_some : (Later : X → X → Type 0) (xs found : List X) (x : X) (a : A) → AreFound passes Later xs found → slice_get found 0 ≡ Some x → IsSeen x a → IsFound passes IsSeen xs (Some a)
  found_some Later xs [] x a h is seen = absurd (let e = is in cc)
  found_some Later xs (y ∷ found) x a h is seen = let same : y ≡ x = cc in (y, subst (λ z. IsSeen z a) (sym same) seen, found, h.all)

  pub last_some : (key : X → ℕ) (xs found : List X) (x : X) (a : A) → AreFound passes (LastFirst key) xs found → slice_get found 0 ≡ Some x → IsSeen x a → IsLast passes IsSeen key xs (Some a)
  last_some key xs [] x a h is seen = absurd (let e = is in cc)
  last_some key xs (y ∷ found) x a h is seen = let same : y ≡ x = cc in (y, subst (λ z. IsSeen z a) (sym same) seen, found, h.all, h.order.0)

-- Lemmas: SQLite's comparison of two integers that are not negative has the same result as the
-- comparison of these natural numbers.

not_above : (a b : ℕ) (o : Ordering) → MatchOrdering o (pos a <ℤ pos b) (pos a ≡ pos b) (pos b <ℤ pos a) → is_gt o ≡ false → a ≤ b
not_above a b Less h e = omega (arith, ints)
not_above a b Equal h e = omega (arith, ints)
not_above a b Greater h e = absurd (let f = e in cc)

-- If SQLite sorts rows by one integer column, smaller integers come first.
pub in_order : (a b : ℕ) → is_gt (ordering_then (value_cmp (Int (pos a)) (Int (pos b))) Equal) ≡ false → a ≤ b
in_order a b e = not_above a b (int_cmp (pos a) (pos b)) (int_ranks (pos a) (pos b)) (sym (ap is_gt (then-Equal _ ∙ value_cmp-Int (pos a) (pos b))) ∙ e)
