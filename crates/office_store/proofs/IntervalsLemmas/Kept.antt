-- Defines rows of `intervals` whose energy may be any SQLite value, as during an UPDATE, and proves
-- which quarter hours these rows encode.
use Rattle.std.proofs.Common.{◌≡◌, ◌≤◌, ◌<◌, ◌^◌, ◌+◌, ◌==◌, inl, inr, ℕ, pos, List, [], ◌∷◌, map, Bool, ◌&&◌, bytes_eq, Some, refl, sym, ap, ap₂, subst, ◌∙◌, arith, if◌then◌else◌, IsPermutation}
use Rattle.std.specs.List.{list_any}
use Rattle.std.proofs.lemmas.Bool.{cases_Bool}
use Rattle.std.proofs.lemmas.Bool.Decides.{nat_tests}
use Rattle.sqlite.specs.declared.types.Value.{Value}
use Rattle.sqlite.specs.declared.types.Value.TheVariants.{Int, Text}
use Rattle.sqlite.specs.Order.{Row}
use Rattle.sqlite.specs.Ops.{binary, if_fits}
use Rattle.sqlite.specs.Kind.TheVariants.{Integer}
use Rattle.sqlite.specs.Cast.{cast}
use Rattle.sqlite.specs.Effect.{Database}
use Rattle.sqlite_sql.specs.declared.ops.BinaryOp.TheVariants.{Arith}
use Rattle.sqlite_sql.specs.declared.ops.ArithOp.TheVariants.{Add}
use Rattle.sqlite_keyed.proofs.ListLemmas.{map-map}
use Rattle.interval_core.specs.declared.shares.Share.{Share}
use Rattle.store_tables.specs.Content.{Content, Edits, changed_where}
use Rattle.store_tables.specs.Steps.{Turns}
use Rattle.store_tables.proofs.OtherTables.{cast_int}
use Rattle.office_store.specs.Intervals.Trees.{intervals}
use Rattle.store_tables.specs.Meters.Rows.{greatest_total}
use Rattle.office_store.specs.Intervals.Rows.{Interval, interval_columns, is_at}
use Rattle.office_store.specs.Intervals.StepShares.{raised, with_share, AreSmall, EditsIf}

pub record Kept : Type 0 where
  pub meter : List ℕ
  pub start : ℕ
  pub energy : Value

abbrev pub kept_columns : Kept → Row
kept_columns k = Text k.meter ∷ Int (pos k.start) ∷ k.energy ∷ []

abbrev pub kept_of : Interval → Kept
kept_of i = record { meter = i.meter; start = i.share.start; energy = Int (pos i.share.mwh) }

abbrev pub is_kept : (meter : List ℕ) → (start : ℕ) → Kept → Bool
is_kept meter start k = bytes_eq k.meter meter && (k.start == start)

-- A row of `intervals` after an UPDATE added energy in mWh.
abbrev pub adds : (mwh : ℕ) → Kept → Kept
adds mwh k = record { meter = k.meter; start = k.start; energy = cast Integer (binary (Arith Add) k.energy (Int (pos mwh))) }

abbrev pub upserted : (meter : List ℕ) → (start mwh : ℕ) → List Kept → List Kept
upserted meter start mwh ks =
    if list_any (is_kept meter start) ks then changed_where (is_kept meter start) (adds mwh) ks
    else (record { meter = meter; start = start; energy = Int (pos mwh) }) ∷ ks

-- Lemmas that SQLite's sum of two energies in mWh is exact, because the sum is less than 2^63.

fits : (n : ℕ) → n < 2 ^ 63 → if_fits (pos n) ≡ Some (pos n)
fits n h = grind (arith, nat_tests)

sum_is : (a b : ℕ) → a + b < 2 ^ 63 → binary (Arith Add) (Int (pos a)) (Int (pos b)) ≡ Int (pos (a + b))
unfolding binary
sum_is a b h = rw (fits (a + b) h)

-- Lemmas that an UPDATE that adds energy to a row of `intervals` stores the increased energy.

any_kept : (meter : List ℕ) (start : ℕ) (is : List Interval) → list_any (is_kept meter start) (map kept_of is) ≡ list_any (is_at meter start) is
any_kept meter start [] = refl
any_kept meter start (i ∷ is) = elim (cases_Bool (is_at meter start i)) [
  | inl here ↦ rw here refl
  | inr off ↦ rw off (any_kept meter start is)
]

one_added : (mwh : ℕ) (i : Interval) → i.share.mwh + mwh ≤ greatest_total → adds mwh (kept_of i) ≡ kept_of (raised mwh i)
one_added mwh i small = ap (λ v. record { meter = i.meter; start = i.share.start; energy = cast Integer v }) (sum_is i.share.mwh mwh (omega (arith, small))) ∙ ap (λ v. record { meter = i.meter; start = i.share.start; energy = v }) (cast_int (pos (i.share.mwh + mwh)))

all_added : (meter : List ℕ) (start mwh : ℕ) (is : List Interval) → AreSmall (changed_where (is_at meter start) (raised mwh) is)
    → changed_where (is_kept meter start) (adds mwh) (map kept_of is) ≡ map kept_of (changed_where (is_at meter start) (raised mwh) is)
all_added meter start mwh [] small = refl
all_added meter start mwh (i ∷ is) small = elim (cases_Bool (is_at meter start i)) [
  | inl here ↦ rw here (ap₂ ◌∷◌ (one_added mwh i (rw here at small.0)) (all_added meter start mwh is small.1))
  | inr off ↦ rw off (ap (λ ks. kept_of i ∷ ks) (all_added meter start mwh is small.1))
]

pub added_share : (meter : List ℕ) (share : Share) (is : List Interval) → AreSmall (with_share meter share is)
    → upserted meter share.start share.mwh (map kept_of is) ≡ map kept_of (with_share meter share is)
added_share meter share is small = elim (cases_Bool (list_any (is_at meter share.start) is)) [
  | inl there ↦ rw (any_kept meter share.start is, there) (all_added meter share.start share.mwh is (rw there at small))
  | inr none ↦ rw (any_kept meter share.start is, none) refl
]

-- Lemmas that if stored rows of `intervals` are changed, the quarter hours that these rows encode
-- are changed in the same way.

columns_of : (is : List Interval) → map kept_columns (map kept_of is) ≡ map interval_columns is
columns_of is = map-map kept_columns kept_of is

pub of_intervals : (May : List Interval → Type 0) (edit : List Interval → List Interval) (Edit : List Kept → List Kept) (content after : Content)
    → ((is : List Interval) → May is → Edit (map kept_of is) ≡ map kept_of (edit is)) → Edits intervals kept_columns Edit content after → EditsIf May edit content after
of_intervals May edit Edit content after same e = record {
  rows = λ is has may.
      let had = subst (λ rs. IsPermutation rs (content intervals)) (sym (columns_of is)) has in
      subst (λ rs. IsPermutation rs (after intervals)) (ap (map kept_columns) (same is may) ∙ columns_of (edit is)) (e.rows (map kept_of is) had);
  others = e.others;
}

pub turns_weaker : (P Q : Content → Content → Type 0) (old new : Database) → ((content after : Content) → P content after → Q content after) → Turns P old new → Turns Q old new
turns_weaker P Q old new reports turned content has = let it = turned content has in (it.0, reports content it.0 it.1, it.2)
