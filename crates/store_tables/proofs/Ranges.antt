-- Proofs about inserting a counter's range for each meter into the table `ranges`, one after
-- another, during an upgrade.
use Rattle.std.proofs.Common.{◌≡◌, ◌<◌, ◌+◌, ℕ, suc, List, [], ◌∷◌, ◌++◌, map, take, length, get_or, Ok, sym, ap, subst, ◌∙◌, arith, IsPermutation}
use Rattle.std.proofs.lemmas.List.{append_assoc, map-append}
use Rattle.std.proofs.Math.Seq.{take-suc}
use Rattle.std.proofs.lemmas.List.Sorted.{IsPermutation-trans, IsPermutation-map, IsPermutation-middle}
use Rattle.sqlite.specs.declared.error.Error.{Error}
use Rattle.sqlite.specs.declared.types.Value.TheVariants.{Text}
use Rattle.sqlite.specs.Order.{Row, column}
use Rattle.sqlite.specs.State.{State}
use Rattle.store_tables.specs.Content.{Content, Edits, with_row}
use Rattle.store_tables.specs.Steps.{Steps, Turns}
use Rattle.store_tables.proofs.StepLemmas.{steps_then, no_steps, answered, weaker}
use Rattle.store_tables.specs.Meters.Rows.{Ranged, ranged_columns}
use Rattle.store_tables.specs.Meters.Trees.{ranges}
use Rattle.store_tables.specs.Upgrade.{text_in, range_in, with_ranges, GivesRanges}

one_after : (shown : List Row) (row : Row) (rs : List Ranged) → IsPermutation (with_ranges (shown ++ row ∷ []) rs) (range_in row ∷ with_ranges shown rs)
one_after shown row rs =
    subst (λ xs. IsPermutation xs (range_in row ∷ with_ranges shown rs))
    (sym (ap (λ xs. xs ++ rs) (map-append range_in shown (row ∷ [])) ∙ append_assoc (map range_in shown) (range_in row ∷ []) rs))
    (IsPermutation-middle (map range_in shown) (range_in row) rs)

one_more : (shown : List Row) (row : Row) (x y z : Content) → GivesRanges shown x y → Edits ranges ranged_columns (with_row (range_in row)) y z → GivesRanges (shown ++ row ∷ []) x z
one_more shown row x y z first next = record {
  rows = λ xs has. IsPermutation-trans _ _ _ (IsPermutation-map ranged_columns _ _ (one_after shown row xs)) (next.rows (with_ranges shown xs) (first.rows xs has));
  others = λ t off. next.others t off ∙ first.others t off;
}

none_given : (x z : Content) → z ≡ x → GivesRanges [] x z
none_given x z same = record {
  rows = λ xs has. subst (λ (c : Content). IsPermutation (map ranged_columns xs) (c ranges)) (sym same) has;
  others = λ t off. ap (λ (c : Content). c t) same;
}

pub begun : (a : State) → Steps {X = Unit {0}} {E = Error} a a (Ok tt) (GivesRanges [])
begun a = weaker a a (Ok tt) (Turns (λ content after. after ≡ content)) (Turns (GivesRanges [])) (λ turns content has. let it = turns content has in (it.0, none_given content it.0 it.1, it.2)) (no_steps a tt)

-- If a result row has the name of a meter, the row of the table `ranges` that an upgrade inserts
-- for this result row belongs to this meter.
pub range_is : (row : Row) (meter : List ℕ) → column row 0 ≡ Text meter → ◌≡◌ {A = Ranged} (record { meter = meter; range = 4294967296 }) (range_in row)
range_is row meter is = ap (λ v. record { meter = text_in v; range = 4294967296 }) (sym is)

pub given : (all : List Row) (i : ℕ) (row d : Row) (x : Ranged) (a b c : State) (n : ℕ) → i < length all → row ≡ get_or all i d → x ≡ range_in row → Steps {X = Unit {0}} {E = Error} a b (Ok tt) (GivesRanges (take i all))
    → Steps {X = ℕ} {E = Error} b c (Ok n) (Edits ranges ranged_columns (with_row x)) → Steps {X = Unit {0}} {E = Error} a c (Ok tt) (GivesRanges (take (i + 1) all))
given all i row d x a b c n inside is same first next =
    let next_row = subst (λ y. Steps {X = ℕ} {E = Error} b c (Ok n) (Edits ranges ranged_columns (with_row y))) same next in
    subst (λ rows. Steps {X = Unit {0}} {E = Error} a c (Ok tt) (GivesRanges rows)) (ap (λ (q : Row). take i all ++ q ∷ []) is ∙ (sym (take-suc all i d inside) ∙ ap (λ (n : ℕ). take n all) (let e : suc i ≡ i + 1 = omega arith in e)))
    (answered a c n tt (Turns (GivesRanges (take i all ++ row ∷ []))) (steps_then a b c tt (Ok n) (GivesRanges (take i all)) _ (GivesRanges (take i all ++ row ∷ [])) first next_row (one_more (take i all) row)))
