-- Proofs that the answer of a query follows from the rows of the table that it reads, for queries
-- about voiding (cancelling) an entry.
use Rattle.std.proofs.Common.{◌≡◌, ℕ, ◌==◌, ◌||◌, pos, Bool, true, false, cond, List, [], ◌∷◌, map, filter, take, slice_get, Option, Some, None, Ok, Err, Result, IsErrAnd, refl, sym, ap, ◌∙◌, IsPermutation, arith}
use Rattle.std.specs.List.{list_any}
use Rattle.std.proofs.lemmas.List.Sorted.{length_permutation}
use Rattle.sqlite.specs.declared.error.Error.{Error}
use Rattle.sqlite.specs.declared.types.Value.TheVariants.{Int, Text}
use Rattle.sqlite.specs.Order.{Row}
use Rattle.sqlite.specs.Store.{Ghosts}
use Rattle.sqlite.specs.Held.{Held, state}
use Rattle.sqlite.specs.State.{State, Shown}
use Rattle.store_tables.specs.declared.faults.RowFault.{RowFault}
use Rattle.store_tables.specs.Schema.{books_schema, voids_table}
use Rattle.store_tables.specs.Answer.{AnyOrder, AreFound, IsFound}
use Rattle.store_tables.specs.Asking.{AsksInside, ReportsAnswer, ShowsFirst, ReadsRow}
use Rattle.store_tables.specs.Content.{Content, AreTables, HasRows}
use Rattle.store_tables.specs.Entries.Rows.{Voided, voided_columns, voided_shown}
use Rattle.store_tables.specs.Entries.Trees.{voids}
use Rattle.store_tables.proofs.Frames.{tree_at}
use Rattle.store_tables.proofs.Scans.{text_is, number_is, and_true, one}
use Rattle.store_tables.proofs.Selects.{selects, found_none, found_some}
use Rattle.office_store.specs.Going.{Goes, Reported}
use Rattle.office_store.proofs.GoingLemmas.{of_answer, of_no_answer, reported_less}
use Rattle.office_store.specs.Voids.Places.{ReportsOf, is_void}
use Rattle.office_store.proofs.VoidsLemmas.Texts as text

pub void_at : (meter : List ℕ) (place : ℕ) (old new : State) (content : Content) (xs : List Voided) (rows : List Row) → AreTables old.now content → HasRows voids voided_columns xs content
    → Shown text.void_at (Text meter ∷ Int (pos place) ∷ []) old new rows → ShowsFirst (is_void meter place) (AnyOrder) voided_shown xs rows
void_at meter place old new content xs rows has are h =
    selects voids text.void_at_tests text.void_at_project [] one (Text meter ∷ Int (pos place) ∷ []) voided_columns (is_void meter place) voided_shown (AnyOrder)
    (λ n x. rw (text_is x.meter meter, number_is x.place place, and_true (x.place == place)) refl) (λ n x. refl) (λ m n x y le. tt)
    old new text.void_at text.void_at_names content xs rows (tree_at books_schema.tables 12 voids_table refl) has are text.void_at_is text.void_at_unlisted text.void_at_plain h

-- If a query fails, or its answer can't be read, a function that then returns an error leaves the
-- tables unchanged.

pub not_answered : {S A X Y : Type 0} (T : RowFault → Type 0) (g : Ghosts S) (old new : Held S) (e : Error) (r : Result Y RowFault) (tree : ℕ) (columns : X → Row) (Answers : List X → Y → Type 0)
    → AsksInside {X = A} {E = Error} g old new (Err e) → IsErrAnd r T → Goes (state g old) (state g new) r (ReportsOf r tree columns Answers)
not_answered T g old new e (Ok y) tree columns Answers asks is = absurd is
not_answered T g old new e (Err d) tree columns Answers asks is = of_no_answer g old new e d (ReportsOf (Err d) tree columns Answers) asks

pub not_read : {S A D X Y : Type 0} (T : RowFault → Type 0) (g : Ghosts S) (old new : Held S) (a : Result A D) (r : Result Y RowFault) (tree : ℕ) (columns : X → Row) (Answers : List X → Y → Type 0)
    → AsksInside g old new a → IsErrAnd r T → Goes (state g old) (state g new) r (ReportsOf r tree columns Answers)
not_read T g old new a (Ok y) tree columns Answers asks is = absurd is
not_read T g old new a (Err d) tree columns Answers asks is =
    record { kept = λ clean inside content has. asks.kept clean content has; makes = λ clean inside content has. tt; survives = asks.survives }

-- Lemmas that the first result row of a query with LIMIT 1 encodes the first row that passes the
-- query's test.

module _ {X : Type 0} (passes : X → Bool) (shown : X → Row) where
  no_first : (items : List Row) (found : List X) → slice_get items 0 ≡ None → items ≡ take 1 (map shown found) → slice_get found 0 ≡ None
  no_first items [] is e = refl
  no_first items (x ∷ found) is e = absurd (let f = sym is ∙ ap (λ rs. slice_get rs 0) e in cc)

  first_shown : (row : Row) (items : List Row) (found : List X) → slice_get items 0 ≡ Some row → items ≡ take 1 (map shown found) → (x : X) × (slice_get found 0 ≡ Some x) × (row ≡ shown x)
  first_shown row items [] is e = absurd (let f = sym is ∙ ap (λ rs. slice_get rs 0) e in cc)
  first_shown row items (x ∷ found) is e = (x, refl, (let f : Some row ≡ Some (shown x) = sym is ∙ ap (λ rs. slice_get rs 0) e in cc))

  pub none_reported : {S A Q : Type 0} (g : Ghosts S) (old new : Held S) (tree : ℕ) (columns : X → Row) (rows : Q) (items : List Row) (IsSeen : X → A → Type 0)
      → AsksInside {X = Q} {E = Error} g old new (Ok rows) → ReportsAnswer g old new tree columns (Ok rows) (λ xs a. ShowsFirst passes AnyOrder shown xs items)
      → slice_get items 0 ≡ None → Goes {X = Option A} {E = RowFault} (state g old) (state g new) (Ok None) (Reported tree columns (IsFound passes IsSeen) None)
  none_reported g old new tree columns rows items IsSeen asks reports is =
      reported_less {D = Error} (state g old) (state g new) rows None (Reported tree columns (λ xs a. ShowsFirst passes AnyOrder shown xs items) rows) (Reported tree columns (IsFound passes IsSeen) None)
      (λ content after (reported : Reported tree columns (λ xs a. ShowsFirst passes AnyOrder shown xs items) rows content after). record {
        same = reported.same;
        answers = λ xs has. let it = reported.answers xs has in found_none passes IsSeen AnyOrder xs it.0 it.1 (no_first items it.0 is it.2);
      })
      (of_answer g old new tree columns (λ xs a. ShowsFirst passes AnyOrder shown xs items) rows asks reports)

  pub some_reported : {S A Q : Type 0} (g : Ghosts S) (old new : Held S) (tree : ℕ) (columns : X → Row) (rows : Q) (items : List Row) (row : Row) (a : A) (IsSeen : X → A → Type 0) (IsSound : X → Type 0)
      → AsksInside {X = Q} {E = Error} g old new (Ok rows) → ReportsAnswer g old new tree columns (Ok rows) (λ xs a. ShowsFirst passes AnyOrder shown xs items)
      → slice_get items 0 ≡ Some row → ReadsRow row shown IsSeen IsSound (Ok a)
      → Goes {X = Option A} {E = RowFault} (state g old) (state g new) (Ok (Some a)) (Reported tree columns (IsFound passes IsSeen) (Some a))
  some_reported g old new tree columns rows items row a IsSeen IsSound asks reports is reads =
      reported_less {D = Error} (state g old) (state g new) rows (Some a) (Reported tree columns (λ xs a. ShowsFirst passes AnyOrder shown xs items) rows) (Reported tree columns (IsFound passes IsSeen) (Some a))
      (λ content after (reported : Reported tree columns (λ xs a. ShowsFirst passes AnyOrder shown xs items) rows content after). record {
        same = reported.same;
        answers = λ xs has.
            let it = reported.answers xs has in
            let one = first_shown row items it.0 is it.2 in
            found_some passes IsSeen AnyOrder xs it.0 one.0 a it.1 one.1 (reads.read one.0 one.2);
      })
      (of_answer g old new tree columns (λ xs a. ShowsFirst passes AnyOrder shown xs items) rows asks reports)

  -- Lemmas that a query with LIMIT 1 has a result row if and only if some row of the table passes
  -- the query's test.

  abbrev has_some : List X → Bool
  has_some [] = false
  has_some (x ∷ xs) = true

  any_step : (b : Bool) (x : X) (xs : List X) → passes x ≡ b → list_any passes xs ≡ has_some (filter passes xs) → list_any passes (x ∷ xs) ≡ has_some (cond b (x ∷ filter passes xs) (filter passes xs))
  any_step true x xs is more = ap (λ b. b || list_any passes xs) is
  any_step false x xs is more = ap (λ b. b || list_any passes xs) is ∙ more

  any_is : (xs : List X) → list_any passes xs ≡ has_some (filter passes xs)
  any_is [] = refl
  any_is (x ∷ xs) = any_step (passes x) x xs refl (any_is xs)

  some_there : (xs : List X) (x : X) (others : List X) → IsPermutation xs (x ∷ others) → has_some xs ≡ true
  some_there [] x others same = absurd (let long = length_permutation _ _ same in omega (arith, long))
  some_there (y ∷ xs) x others same = refl

  found_any : (xs found : List X) (x : X) → AreFound passes AnyOrder xs found → slice_get found 0 ≡ Some x → true ≡ list_any passes xs
  found_any xs [] x are is = absurd (let e = is in cc)
  found_any xs (y ∷ found) x are is = sym (any_is xs ∙ some_there (filter passes xs) y found are.all)

  pub no_one_reported : {S Q : Type 0} (g : Ghosts S) (old new : Held S) (tree : ℕ) (columns : X → Row) (rows : Q) (items : List Row)
      → AsksInside {X = Q} {E = Error} g old new (Ok rows) → ReportsAnswer g old new tree columns (Ok rows) (λ xs a. ShowsFirst passes AnyOrder shown xs items)
      → slice_get items 0 ≡ None → Goes {X = Bool} {E = RowFault} (state g old) (state g new) (Ok false) (Reported tree columns (λ xs answer. answer ≡ list_any passes xs) false)
  no_one_reported g old new tree columns rows items asks reports is =
      reported_less {D = Error} (state g old) (state g new) rows false (Reported tree columns (λ xs a. ShowsFirst passes AnyOrder shown xs items) rows) (Reported tree columns (λ xs answer. answer ≡ list_any passes xs) false)
      (λ content after (reported : Reported tree columns (λ xs a. ShowsFirst passes AnyOrder shown xs items) rows content after). record {
        same = reported.same;
        answers = λ xs has.
            let it = reported.answers xs has in
            sym (any_is xs ∙ ap has_some (found_none passes (λ x (y : X). Unit {0}) AnyOrder xs it.0 it.1 (no_first items it.0 is it.2)));
      })
      (of_answer g old new tree columns (λ xs a. ShowsFirst passes AnyOrder shown xs items) rows asks reports)

  pub one_reported : {S Q : Type 0} (g : Ghosts S) (old new : Held S) (tree : ℕ) (columns : X → Row) (rows : Q) (items : List Row) (row : Row)
      → AsksInside {X = Q} {E = Error} g old new (Ok rows) → ReportsAnswer g old new tree columns (Ok rows) (λ xs a. ShowsFirst passes AnyOrder shown xs items)
      → slice_get items 0 ≡ Some row → Goes {X = Bool} {E = RowFault} (state g old) (state g new) (Ok true) (Reported tree columns (λ xs answer. answer ≡ list_any passes xs) true)
  one_reported g old new tree columns rows items row asks reports is =
      reported_less {D = Error} (state g old) (state g new) rows true (Reported tree columns (λ xs a. ShowsFirst passes AnyOrder shown xs items) rows) (Reported tree columns (λ xs answer. answer ≡ list_any passes xs) true)
      (λ content after (reported : Reported tree columns (λ xs a. ShowsFirst passes AnyOrder shown xs items) rows content after). record {
        same = reported.same;
        answers = λ xs has.
            let it = reported.answers xs has in
            let one = first_shown row items it.0 is it.2 in
            found_any xs it.0 one.0 it.1 one.1;
      })
      (of_answer g old new tree columns (λ xs a. ShowsFirst passes AnyOrder shown xs items) rows asks reports)
