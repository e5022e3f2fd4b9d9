-- The parsed structure of a SELECT from one table, and the result rows that SQLite computes from
-- it.
use Rattle.std.proofs.Common.{◌≡◌, ℕ, pos, negsuc, List, [], ◌∷◌, map, filter, Bool, true, false, ◌&&◌, None, Some, refl, sym, ap, subst, ◌∙◌, bytes_eq, IsPermutation, Ordering, flat_map, cond, nat_le, ◌^◌, inl, inr, ◌<ℤ◌, ◌==◌, eq-eqb, ne_eqb, arith, Less, Equal, Greater}
use Rattle.std.proofs.lemmas.Bool.{cases_Bool}
use Rattle.std.specs.List.{list_all}
use Rattle.std.specs.Ordering.{is_eq, int_cmp, MatchOrdering}
use Rattle.std.specs.Cmp.{int_ranks}
use Rattle.std.proofs.lemmas.Int.{ints}
use Rattle.std.proofs.lemmas.Map.Text.{is_eq-slice_cmp}
use Rattle.std.proofs.lemmas.List.Sorted.{IsPermutation-map}
use Rattle.sqlite.specs.declared.types.Value.TheVariants.{Int, Text}
use Rattle.sqlite.specs.Order.{Row}
use Rattle.sqlite.specs.Ops.{binary, is_true, from_truth}
use Rattle.sqlite_sql.specs.declared.ops.BinaryOp.TheVariants.{Compare}
use Rattle.sqlite_sql.specs.declared.ops.CompareOp.TheVariants.{Eq}
use Rattle.sqlite_value.specs.declared.keys.Key.{Key}
use Rattle.sqlite.specs.Collation.TheVariants.{Binary}
use Rattle.sqlite_value.proofs.OrderLemmas.{value_cmp-Int, value_cmp-Text}
use Rattle.sqlite.specs.Term.{Term, Env, lit, col, holds, eval_all}
use Rattle.sqlite_sql.specs.Term.{op2}
use Rattle.sqlite.specs.Query.{Query, inner, end, IsAnswer, Output, output}
use Rattle.sqlite.specs.Program.{overlay}
use Rattle.sqlite.specs.Tree.{Trees}
use Rattle.store_tables.specs.Content.{same_id}
use Rattle.store_tables.proofs.Edits.{picked}

abbrev pub no_limit : Term
no_limit = lit (Int (negsuc 0))

abbrev pub one : Term
one = lit (Int (pos 1))

-- The SQL test that a column equals a parameter, given the index of the column and of the
-- parameter.
abbrev pub is_param : (column param : ℕ) → Term
is_param column param = op2 (Compare Eq Binary) (col 1 column) (col 0 param)

abbrev pub falling : Key
falling = record { collation = Binary; descending = true }

abbrev pub rising : Key
rising = record { collation = Binary; descending = false }

-- The query SELECT .. FROM one table WHERE .. ORDER BY .. LIMIT .., built from its parts.
abbrev pub scan : (tree : ℕ) → (tests project : List Term) → List (Term × Key) → (limit : Term) → Query
scan tree tests project order limit = record {
  from = inner tree end;
  filter = tests;
  group = None;
  project = project;
  distinct = false;
  collations = [];
  order = order;
  limit = limit;
  offset = lit (Int (pos 0));
}

-- If a query has no common table expressions (WITH), it reads the stored rows of a table.
pub overlay_none : (db : Trees) (tree : ℕ) → overlay db [] tree ≡ db tree
overlay_none db tree = elim (cases_Bool (nat_le (2 ^ 31) tree)) [
  | inl high ↦ rw high refl
  | inr low ↦ rw low refl
]

module _ (params : Row) where
  abbrev pub env : Row → Env
  env r = params ∷ r ∷ []

  -- True if a row passes all tests of a WHERE clause.
  abbrev pub passes : List Term → Row → Bool
  passes tests r = list_all (holds (env r)) tests

  abbrev pub shows : List Term → Row → Row
  shows project r = eval_all project (env r)

  module _ (tree : ℕ) (tests project : List Term) (order : List (Term × Key)) (limit : Term) where
    abbrev query : Query
    query = scan tree tests project order limit

    outputs_are : (rows : List Row) → map (output query) (map env rows) ≡ map (λ r. output query (env r)) rows
    outputs_are [] = refl
    outputs_are (r ∷ rows) = ap (λ os. output query (env r) ∷ os) (outputs_are rows)

    -- If a SELECT has a WHERE clause, its result before ORDER BY has exactly the rows of the table
    -- that pass the clause.
    pub kept_are : (db : Trees) (rows : List Row) (a : IsAnswer query (overlay db []) params rows) → a.kept ≡ map (λ r. output query (env r)) (filter (passes tests) (db tree))
    kept_are db rows a = a.distinct ∙ (ap (map (output query)) (a.grouped ∙ (ap (flat_map (λ r. cond (passes tests r) (env r ∷ []) [])) (overlay_none db tree) ∙ picked (passes tests) env (db tree))) ∙ outputs_are (filter (passes tests) (db tree)))

    shown_are : (rows : List Row) → map (λ (o : Output). o.1) (map (λ r. output query (env r)) rows) ≡ map (shows project) rows
    shown_are [] = refl
    shown_are (r ∷ rows) = ap (λ rs. shows project r ∷ rs) (shown_are rows)

-- If a query has no ORDER BY and no LIMIT, as in UPDATE and DELETE, it finds all rows that pass its
-- WHERE clause.
pub asked : (params : Row) (tree : ℕ) (tests project : List Term) (db : Trees) (rows : List Row) → IsAnswer (scan tree tests project [] no_limit) (overlay db []) params rows
    → IsPermutation (map (shows params project) (filter (passes params tests) (db tree))) rows
asked params tree tests project db rows a =
    let shown = IsPermutation-map (λ (o : Output). o.1) a.kept a.ordered a.same in
    subst (IsPermutation (map (shows params project) (filter (passes params tests) (db tree)))) (sym a.shown)
    (subst (λ xs. IsPermutation xs (map (λ (o : Output). o.1) a.ordered)) (ap (map (λ (o : Output). o.1)) (kept_are params tree tests project [] no_limit db rows a) ∙ shown_are params tree tests project [] no_limit (filter (passes params tests) (db tree))) shown)

-- Lemmas: SQLite's comparison of two texts or numbers in a WHERE clause is true exactly if they are
-- equal.

truth_back : (b : Bool) → is_true (from_truth (Some b)) ≡ b
truth_back true = refl
truth_back false = refl

pub text_is : (s t : List ℕ) → is_true (binary (Compare Eq Binary) (Text s) (Text t)) ≡ bytes_eq s t
unfolding binary
text_is s t = truth_back _ ∙ (ap is_eq (value_cmp-Text s t) ∙ is_eq-slice_cmp s t)

pub and_true : (b : Bool) → b && true ≡ b
and_true true = refl
and_true false = refl

same_numbers : (a b : ℕ) → same_id (pos a) (pos b) ≡ (a == b)
same_numbers a b = go (int_cmp (pos a) (pos b)) (int_ranks (pos a) (pos b))
  where
    go : (o : Ordering) → MatchOrdering o (pos a <ℤ pos b) (pos a ≡ pos b) (pos b <ℤ pos a) → is_eq o ≡ (a == b)
    go Less h = sym (ne_eqb a b (omega (arith, ints)))
    go Greater h = sym (ne_eqb a b (omega (arith, ints)))
    go Equal h = let same : a ≡ b = omega (arith, ints) in sym (eq-eqb a b same)

pub number_is : (a b : ℕ) → is_true (binary (Compare Eq Binary) (Int (pos a)) (Int (pos b))) ≡ (a == b)
unfolding binary
number_is a b = truth_back _ ∙ (ap is_eq (value_cmp-Int (pos a) (pos b)) ∙ same_numbers a b)
