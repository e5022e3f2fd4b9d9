-- Proofs that the integer comparisons in a query's WHERE clause select the same rows as comparisons
-- of natural numbers.
use Rattle.std.proofs.Common.{◌≡◌, ◌<ℤ◌, nat_le, nat_lt, le-leb, lt-ltb, le-ltb, Some, pos, ℕ, List, filter, Bool, true, false, Ordering, Less, Equal, Greater, refl, sym, ap, ◌∙◌, arith, IsPermutation}
use Rattle.std.specs.List.{AllByRecursion}
use Rattle.std.specs.Ordering.{int_cmp, is_ge, is_lt, MatchOrdering}
use Rattle.std.specs.Cmp.{int_ranks}
use Rattle.std.proofs.lemmas.Int.{ints}
use Rattle.std.proofs.lemmas.Bool.{lt-leb}
use Rattle.std.proofs.lemmas.List.Elements.{All-from_recursion, recursion_from_All}
use Rattle.std.proofs.lemmas.List.Sorted.{All-permutation}
use Rattle.sqlite.specs.declared.types.Value.TheVariants.{Int}
use Rattle.sqlite.specs.Ops.{binary, is_true, from_truth}
use Rattle.sqlite.specs.Collation.TheVariants.{Binary}
use Rattle.sqlite.specs.Term.{Term, col}
use Rattle.sqlite_sql.specs.Term.{op2}
use Rattle.sqlite_sql.specs.declared.ops.BinaryOp.TheVariants.{Compare}
use Rattle.sqlite_sql.specs.declared.ops.CompareOp.TheVariants.{Ge, Lt}
use Rattle.sqlite_value.proofs.OrderLemmas.{value_cmp-Int}
use Rattle.sqlite_keyed.proofs.ListLemmas.{all-filter}

-- The SQL test that a column is greater than or equal to a parameter, both given by index.
abbrev pub is_at_least : (table column param : ℕ) → Term
is_at_least table column param = op2 (Compare Ge Binary) (col table column) (col 0 param)

abbrev pub is_below : (table column param : ℕ) → Term
is_below table column param = op2 (Compare Lt Binary) (col table column) (col 0 param)

pub all_found : {X : Type 0} (P : X → Type 0) (p : X → Bool) (xs found : List X) → IsPermutation (filter p xs) found → AllByRecursion P xs → AllByRecursion P found
all_found P p xs found same all = recursion_from_All P found (All-permutation P _ _ same (All-from_recursion P _ (all-filter P p xs all)))

-- Lemmas that SQLite's comparison of two integers agrees with the comparison of natural numbers.

truth_back : (b : Bool) → is_true (from_truth (Some b)) ≡ b
truth_back true = refl
truth_back false = refl

at_least : (a b : ℕ) → is_ge (int_cmp (pos a) (pos b)) ≡ nat_le b a
at_least a b = go (int_cmp (pos a) (pos b)) (int_ranks (pos a) (pos b))
  where
    go : (o : Ordering) → MatchOrdering o (pos a <ℤ pos b) (pos a ≡ pos b) (pos b <ℤ pos a) → is_ge o ≡ nat_le b a
    go Less h = sym (lt-leb b a (omega (arith, ints)))
    go Equal h = sym (le-leb b a (omega (arith, ints)))
    go Greater h = sym (le-leb b a (omega (arith, ints)))

below : (a b : ℕ) → is_lt (int_cmp (pos a) (pos b)) ≡ nat_lt a b
below a b = go (int_cmp (pos a) (pos b)) (int_ranks (pos a) (pos b))
  where
    go : (o : Ordering) → MatchOrdering o (pos a <ℤ pos b) (pos a ≡ pos b) (pos b <ℤ pos a) → is_lt o ≡ nat_lt a b
    go Less h = sym (lt-ltb a b (omega (arith, ints)))
    go Equal h = sym (le-ltb a b (omega (arith, ints)))
    go Greater h = sym (le-ltb a b (omega (arith, ints)))

pub at_least_is : (a b : ℕ) → is_true (binary (Compare Ge Binary) (Int (pos a)) (Int (pos b))) ≡ nat_le b a
unfolding binary
at_least_is a b = truth_back _ ∙ (ap is_ge (value_cmp-Int (pos a) (pos b)) ∙ at_least a b)

pub below_is : (a b : ℕ) → is_true (binary (Compare Lt Binary) (Int (pos a)) (Int (pos b))) ≡ nat_lt a b
unfolding binary
below_is a b = truth_back _ ∙ (ap is_lt (value_cmp-Int (pos a) (pos b)) ∙ below a b)
