-- Proofs about inserting the points of a device's point list into the table `points`, one after
-- another.
use Rattle.std.proofs.Common.{◌≡◌, ◌<◌, ◌+◌, ℕ, suc, List, [], ◌∷◌, ◌++◌, map, take, length, get_or, Result, Ok, sym, ap, subst, ◌∙◌, arith, IsPermutation}
use Rattle.std.proofs.lemmas.List.{append_assoc, map-append}
use Rattle.std.proofs.Math.Seq.{take-suc}
use Rattle.std.proofs.lemmas.List.Sorted.{IsPermutation-trans, IsPermutation-map, IsPermutation-middle}
use Rattle.sqlite.specs.declared.error.Error.{Error}
use Rattle.sqlite.specs.State.{State}
use Rattle.store_tables.specs.Content.{Content, Edits, with_row, without_where}
use Rattle.store_tables.specs.Steps.{Steps, Turns}
use Rattle.store_tables.proofs.StepLemmas.{steps_then, no_steps, answered, weaker}
use Rattle.store_tables.specs.declared.devices.rows.Point.{Point}
use Rattle.store_tables.specs.Devices.Rows.{Listed, listed_at, point_columns, is_point_of, with_points, with_list}
use Rattle.store_tables.specs.Devices.Trees.{points}

module _ (device : List ℕ) where
  -- True if the new table `points` has the rows of the old table and those of the inserted points.
  abbrev pub Came : List Point → Content → Content → Type 0
  Came ps = Edits points point_columns (with_points device ps)

  one_after : (ps : List Point) (p : Point) (rows : List Listed) → IsPermutation (with_points device (ps ++ p ∷ []) rows) (listed_at device p ∷ with_points device ps rows)
  one_after ps p rows =
      subst (λ xs. IsPermutation xs (listed_at device p ∷ with_points device ps rows))
      (sym (ap (λ xs. xs ++ rows) (map-append (listed_at device) ps (p ∷ [])) ∙ append_assoc (map (listed_at device) ps) (listed_at device p ∷ []) rows))
      (IsPermutation-middle (map (listed_at device) ps) (listed_at device p) rows)

  one_more : (ps : List Point) (p : Point) (x y z : Content) → Came ps x y → Edits points point_columns (with_row (listed_at device p)) y z → Came (ps ++ p ∷ []) x z
  one_more ps p x y z first next = record {
    rows = λ xs has. IsPermutation-trans _ _ _ (IsPermutation-map point_columns _ _ (one_after ps p xs)) (next.rows (with_points device ps xs) (first.rows xs has));
    others = λ t off. next.others t off ∙ first.others t off;
  }

  none_came : (x z : Content) → z ≡ x → Came [] x z
  none_came x z same = record {
    rows = λ xs has. subst (λ (c : Content). IsPermutation (map point_columns xs) (c points)) (sym same) has;
    others = λ t off. ap (λ (c : Content). c t) same;
  }

  pub begun : (a : State) → Steps {X = Unit {0}} {E = Error} a a (Ok tt) (Came [])
  begun a = weaker a a (Ok tt) (Turns (λ content after. after ≡ content)) (Turns (Came [])) (λ turns content has. let it = turns content has in (it.0, none_came content it.0 it.1, it.2)) (no_steps a tt)

  pub came : (all : List Point) (i : ℕ) (p d : Point) (a b c : State) (n : ℕ) → i < length all → p ≡ get_or all i d → Steps {X = Unit {0}} {E = Error} a b (Ok tt) (Came (take i all))
      → Steps {X = ℕ} {E = Error} b c (Ok n) (Edits points point_columns (with_row (listed_at device p))) → Steps {X = Unit {0}} {E = Error} a c (Ok tt) (Came (take (i + 1) all))
  came all i p d a b c n inside is first next =
      subst (λ ps. Steps {X = Unit {0}} {E = Error} a c (Ok tt) (Came ps)) (ap (λ (q : Point). take i all ++ q ∷ []) is ∙ (sym (take-suc all i d inside) ∙ ap (λ (n : ℕ). take n all) (let e : suc i ≡ i + 1 = omega arith in e)))
      (answered a c n tt (Turns (Came (take i all ++ p ∷ []))) (steps_then a b c tt (Ok n) (Came (take i all)) _ (Came (take i all ++ p ∷ [])) first next (one_more (take i all) p)))

  then_points : (ps : List Point) (x y z : Content) → Edits points point_columns (without_where (is_point_of device)) x y → Came ps y z → Edits points point_columns (with_list device ps) x z
  then_points ps x y z first next = record {
    rows = λ xs has. next.rows (without_where (is_point_of device) xs) (first.rows xs has);
    others = λ t off. next.others t off ∙ first.others t off;
  }

  pub replaced : {Y : Type 0} (ps : List Point) (a b c : State) (n : ℕ) (r : Result Y Error) → Steps {X = ℕ} {E = Error} a b (Ok n) (Edits points point_columns (without_where (is_point_of device))) → Steps b c r (Came ps)
      → Steps a c r (Edits points point_columns (with_list device ps))
  replaced ps a b c n r first next = steps_then a b c n r _ (Came ps) _ first next (then_points ps)
