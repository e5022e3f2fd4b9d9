-- Proofs that the query `pending_rows` returns exactly the polls without an outcome.
use Rattle.std.proofs.Common.{◌≡◌, inl, inr, ℕ, suc, ℤ, pos, min, length, List, [], ◌∷◌, map, filter, flat_map, Bool, true, false, cond, not, ◌&&◌, ◌==◌, is_gt, refl, ap, subst, ◌∙◌, arith, IsPermutation}
use Rattle.std.proofs.lemmas.Bool.{cases_Bool}
use Rattle.std.specs.List.{list_all, list_any}
use Rattle.std.proofs.lemmas.List.Sorted.{IsPermutation-sym, IsPermutation-trans, IsPermutation-map, list_any-IsPermutation}
use Rattle.sqlite.specs.declared.types.Value.TheVariants.{Null, Int}
use Rattle.sqlite.specs.Order.{Row}
use Rattle.sqlite.specs.Ops.{unary, is_true}
use Rattle.sqlite_sql.specs.declared.ops.UnaryOp.TheVariants.{Not}
use Rattle.sqlite.specs.Term.{Env, holds}
use Rattle.sqlite.specs.Query.{IsAnswer, Output, output, output_cmp}
use Rattle.sqlite.specs.Program.{overlay}
use Rattle.sqlite.specs.Tree.{Trees, IsAscending}
use Rattle.sqlite_sql.proofs.QueryLemmas.{output_cmp_total}
use Rattle.sqlite_keyed.proofs.ListLemmas.{ascending-map, ascending_from_map, ascending_weaker}
use Rattle.sqlite.specs.State.{State, Shown}
use Rattle.sqlite.proofs.Callers.{reads_as}
use Rattle.store_tables.specs.Schema.{books_schema, polls_table, outcomes_table}
use Rattle.store_tables.specs.Content.{Content, AreTables, HasRows}
use Rattle.store_tables.specs.Answer.{FirstFirst}
use Rattle.store_tables.specs.Asking.{Shows}
use Rattle.store_tables.proofs.Permuted.{unmapped}
use Rattle.store_tables.proofs.Edits.{picked}
use Rattle.store_tables.proofs.Frames.{tree_at}
use Rattle.store_tables.proofs.Laid.{Numbered, lay, IsLaid, laid_from, laid_chosen}
use Rattle.store_tables.proofs.Scans.{overlay_none, number_is, and_true}
use Rattle.store_tables.proofs.Selects.{ascends, in_order}
use Rattle.store_tables.specs.declared.polls.rows.OutcomeRow.{OutcomeRow}
use Rattle.store_tables.specs.Polls.Rows.{Started, poll_columns, poll_shown, poll_number, outcome_columns, is_outcome_of}
use Rattle.store_tables.specs.Polls.Pending.{is_pending}
use Rattle.store_tables.specs.Polls.Trees.{polls, outcomes}
use Rattle.store_tables.proofs.PollsLemmas.Texts as text

-- Lemmas: the SQL condition NOT EXISTS is true exactly if no row passes the WHERE test of its
-- subquery.

one_at_most : (n : ℕ) → min 1 (suc n) ≡ 1
one_at_most n = omega arith

none_counted : {X Y : Type 0} (p : X → Bool) (f : X → Y) (xs : List X) → is_true (unary Not (Int (pos (min 1 (length (flat_map (λ x. cond (p x) (f x ∷ []) []) xs)))))) && true ≡ not (list_any p xs)
unfolding unary
none_counted p f [] = refl
none_counted p f (x ∷ xs) = elim (cases_Bool (p x)) [
  | inl named ↦ rw (named, one_at_most (length (flat_map (λ y. cond (p y) (f y ∷ []) []) xs))) refl
  | inr other ↦ rw other (none_counted p f xs)
]

-- Lemmas on the result of `pending_rows`: the polls without an outcome, in order of their numbers.

module _ (db : Trees) where
  -- True if the poll number in a row of `outcomes` equals the number in a row of `polls`.
  abbrev names : Row → Row → Bool
  names r o = list_all (holds ([] ∷ r ∷ o ∷ [])) text.names_poll

  abbrev count : Row → ℕ
  count r = min 1 (length (flat_map (λ o. cond (names r o) (([] ∷ r ∷ o ∷ []) ∷ []) []) (overlay db [] outcomes)))

  abbrev seen : Row → Env
  seen r = [] ∷ r ∷ (Int (pos (count r)) ∷ []) ∷ []

  abbrev waits : Row → Bool
  waits r = list_all (holds (seen r)) text.none_names

  outputs_are : (rows : List Row) → map (output text.pending_query) (map seen rows) ≡ map (λ r. output text.pending_query (seen r)) rows
  outputs_are [] = refl
  outputs_are (r ∷ rows) = ap (λ os. output text.pending_query (seen r) ∷ os) (outputs_are rows)

  kept_are : (rows : List Row) (a : IsAnswer text.pending_query (overlay db []) [] rows) → a.kept ≡ map (λ r. output text.pending_query (seen r)) (filter waits (db polls))
  kept_are rows a =
      a.distinct ∙ (ap (map (output text.pending_query)) (a.grouped ∙ (ap (flat_map (λ r. cond (waits r) (seen r ∷ []) [])) (overlay_none db polls) ∙ picked waits seen (db polls))) ∙ outputs_are (filter waits (db polls)))

  named_are : (p : Started) (all : List (Numbered OutcomeRow)) → list_any (names (poll_columns p)) (map (lay true outcome_columns) all) ≡ list_any (is_outcome_of p.row.number) (map (λ (z : Numbered OutcomeRow). z.1) all)
  named_are p [] = refl
  named_are p (z ∷ all) = rw (number_is z.1.poll p.row.number, and_true (z.1.poll == p.row.number), named_are p all) refl

  module _ (ended : List OutcomeRow) (ends : IsLaid true outcome_columns (db outcomes) ended) where
    reports : (n : ℤ) (p : Started) → waits (poll_columns p) ≡ is_pending ended p
    reports n p =
        none_counted (names (poll_columns p)) (λ o. [] ∷ poll_columns p ∷ o ∷ []) (overlay db [] outcomes)
        ∙ ap not (ap (list_any (names (poll_columns p))) (overlay_none db outcomes ∙ ends.rows) ∙ (named_are p ends.all ∙ list_any-IsPermutation (is_outcome_of p.row.number) _ _ ends.same))

    abbrev out : Numbered Started → Output
    out z = output text.pending_query (seen (poll_columns z.1))

    outs : (all : List (Numbered Started)) → map (λ r. output text.pending_query (seen r)) (map (lay true poll_columns) all) ≡ map out all
    outs [] = refl
    outs (z ∷ all) = ap (λ os. out z ∷ os) (outs all)

    shown_all : (all : List (Numbered Started)) → map (λ (o : Output). o.1) (map out all) ≡ map poll_shown (map (λ (z : Numbered Started). z.1) all)
    shown_all [] = refl
    shown_all (z ∷ all) = ap (λ rs. poll_shown z.1 ∷ rs) (shown_all all)

    selected : (rows : List Row) (started : List Started) → IsLaid true poll_columns (db polls) started → IsAnswer text.pending_query (overlay db []) [] rows
        → Shows (is_pending ended) (FirstFirst poll_number) poll_shown started rows
    selected rows started lies a =
        let chosen = laid_chosen true poll_columns waits (is_pending ended) reports (db polls) started lies in
        let kept : a.kept ≡ map out chosen.all = kept_are rows a ∙ (ap (map (λ r. output text.pending_query (seen r))) chosen.rows ∙ outs chosen.all) in
        let moved = unmapped out chosen.all a.ordered (subst (λ os. IsPermutation os a.ordered) kept a.same) in
        let up = ascending_weaker _ (λ (z w : Numbered Started). FirstFirst poll_number z.1 w.1) (λ (z w : Numbered Started) le. in_order z.1.row.number w.1.row.number le) moved.0
        (ascending_from_map _ out moved.0 (subst (IsAscending (λ x y. is_gt (output_cmp text.pending_query x y) ≡ false)) moved.2 (ascends (output_cmp text.pending_query) (output_cmp_total text.pending_query) a.ordered a.sorted))) in (
          map (λ (z : Numbered Started). z.1) moved.0,
          record {
            all = IsPermutation-trans _ _ _ (IsPermutation-sym _ _ chosen.same) (IsPermutation-map (λ (z : Numbered Started). z.1) _ _ moved.1);
            order = ascending-map (FirstFirst poll_number) (λ (z : Numbered Started). z.1) moved.0 up;
          },
          a.shown ∙ (ap (map (λ (o : Output). o.1)) moved.2 ∙ shown_all moved.0),
        )

pub pending : (old new : State) (content : Content) (started : List Started) (ended : List OutcomeRow) (rows : List Row) → AreTables old.now content → HasRows polls poll_columns started content → HasRows outcomes outcome_columns ended content
    → Shown text.pending [] old new rows → Shows (is_pending ended) (FirstFirst poll_number) poll_shown started rows
pending old new content started ended rows has started_are ended_are h =
    let got = reads_as text.pending [] old new books_schema has.schema _ text.pending_is text.pending_plain text.pending_unlisted rows h in
    let here = tree_at books_schema.tables 6 polls_table refl in
    let there = tree_at books_schema.tables 8 outcomes_table refl in
    let db = old.now.trees in
    selected db ended (laid_from true outcome_columns (db outcomes) (content outcomes) ended (has.apart outcomes there).keyed (has.rows outcomes there) ended_are)
    rows started (laid_from true poll_columns (db polls) (content polls) started (has.apart polls here).keyed (has.rows polls here) started_are) (got.answer Null)
