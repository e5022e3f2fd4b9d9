-- Proofs that a look-up, a function that runs one query, returns the value in the first row of the
-- result.
use Rattle.std.proofs.Common.{◌≡◌, ◌≤◌, ℕ, List, [], ◌∷◌, map, take, slice_get, Bool, Option, Some, None, Ok, Err, Result, IfOk, IfSome, IsErrAnd, refl, sym, ap, subst, ◌∙◌}
use Rattle.std.specs.List.{AllByRecursion}
use Rattle.std.proofs.lemmas.List.Sorted.{All-permutation}
use Rattle.std.proofs.lemmas.List.Elements.{All-from_recursion, recursion_from_All}
use Rattle.sqlite_keyed.proofs.ListLemmas.{all-filter}
use Rattle.sqlite.specs.Order.{Row, column}
use Rattle.sqlite.specs.declared.error.Error.{Error}
use Rattle.sqlite.specs.Store.{Ghosts}
use Rattle.sqlite.specs.Held.{Held, state}
use Rattle.sqlite.specs.State.{HasCleanDisk}
use Rattle.store_tables.specs.declared.faults.RowFault.{RowFault}
use Rattle.store_tables.specs.declared.faults.RowFault.TheVariants.{Sql}
use Rattle.store_tables.specs.Answer.{AreFound}
use Rattle.store_tables.specs.Content.{Content, AreTables, HasRows}
use Rattle.store_tables.specs.Failing.{IsStoreError, IsFault}
use Rattle.store_tables.proofs.Failures.{row_fault}
use Rattle.store_tables.specs.Columns.{whole_in, first_of, first_in, or_damaged, and_then}
use Rattle.store_tables.specs.Asking.{Asks, ReportsAnswer, ShowsFirst, ReadsRow, LooksUp}

module _ {S A X : Type 0} (g : Ghosts S) (old new : Held S) (tree : ℕ) (columns : X → Row) (IsSound : X → Type 0) (Answers : List X → A → Type 0) (asks : Asks g old new) where
  -- If the query of a look-up fails, the look-up returns the error of the query.
  pub refused : (e : Error) (r : Result A RowFault)
      → (HasCleanDisk (state g new) → (content : Content) → AreTables (state g old).now content → (rows : List X) → HasRows tree columns rows content → IsStoreError (state g old) (state g new) e)
      → IsErrAnd r (λ d. d ≡ Sql e) → LooksUp g old new tree columns IsSound r Answers
  refused e (Ok a) fails is = absurd is
  refused e (Err d) fails is = record {
    asks = asks;
    answer = λ clean content has rows of. tt;
    fault = λ clean content has rows of. subst (IsFault (state g old) (state g new) (AllByRecursion IsSound rows)) (sym is) (fails clean content has rows of);
  }

module _ {S A X : Type 0} (g : Ghosts S) (old new : Held S) (tree : ℕ) (columns : X → Row) (IsSound : X → Type 0) (asks : Asks g old new) (passes : X → Bool) (Later : X → X → Type 0) (shown : X → Row)
    (items : List Row) (shows : ReportsAnswer {A = List Row} g old new tree columns (Ok items) (ShowsFirst passes Later shown)) (Answers : List X → Option A → Type 0) where
  is_empty : (rows : List Row) → slice_get rows 0 ≡ None → rows ≡ []
  is_empty [] e = refl
  is_empty (r ∷ rows) e = absurd (let f = e in cc)

  none_shown : (found : List X) → [] ≡ take 1 (map shown found) → slice_get found 0 ≡ None
  none_shown [] e = refl
  none_shown (x ∷ found) e = absurd (let f = e in cc)

  some_shown : (row : Row) (found : List X) → slice_get items 0 ≡ Some row → items ≡ take 1 (map shown found) → (x : X) × (slice_get found 0 ≡ Some x) × (row ≡ shown x)
  some_shown row [] is e = absurd (let f = sym is ∙ ap (λ rs. slice_get rs 0) e in cc)
  some_shown row (x ∷ found) is e = (x, refl, (let f : Some row ≡ Some (shown x) = sym is ∙ ap (λ rs. slice_get rs 0) e in cc))

  -- If the result of a look-up's query has no row, the look-up returns None.
  pub looked_none : slice_get items 0 ≡ None → ((xs found : List X) → AreFound passes Later xs found → slice_get found 0 ≡ None → Answers xs None) → LooksUp g old new tree columns IsSound (Ok None) Answers
  looked_none is reports = record {
    asks = asks;
    answer = λ clean content has rows of. let it = shows clean content has rows of in reports rows it.0 it.1 (none_shown it.0 (sym (is_empty items is) ∙ it.2));
    fault = λ clean content has rows of. tt;
  }

  -- If the first result row of a look-up's query can be read, the look-up returns the value in this
  -- row.
  pub looked_some : (IsSeen : X → A → Type 0) (row : Row) (a : A) → slice_get items 0 ≡ Some row → ReadsRow row shown IsSeen IsSound (Ok a)
      → ((xs found : List X) (x : X) → AreFound passes Later xs found → slice_get found 0 ≡ Some x → IsSeen x a → Answers xs (Some a)) → LooksUp g old new tree columns IsSound (Ok (Some a)) Answers
  looked_some IsSeen row a is reads reports = record {
    asks = asks;
    answer = λ clean content has rows of.
        let it = shows clean content has rows of in
        let one = some_shown row it.0 is it.2 in
        reports rows it.0 one.0 it.1 one.1 (reads.read one.0 one.2);
    fault = λ clean content has rows of. tt;
  }

  one_sound : (xs found : List X) (x : X) → AreFound passes Later xs found → AllByRecursion IsSound xs → slice_get found 0 ≡ Some x → IsSound x
  one_sound xs [] x are sound is = absurd (let f = is in cc)
  one_sound xs (y ∷ found) x are sound is =
      let all = recursion_from_All IsSound (y ∷ found) (All-permutation IsSound _ _ are.all (All-from_recursion IsSound _ (all-filter IsSound passes xs sound))) in
      let same : y ≡ x = cc in subst IsSound same all.0

  -- If the first result row of a look-up's query can't be parsed, the look-up returns the fault of
  -- the row's parser.
  pub looked_fault : (IsSeen : X → A → Type 0) (row : Row) (e : RowFault) (r : Result (Option A) RowFault) → slice_get items 0 ≡ Some row → ReadsRow row shown IsSeen IsSound (Err e) → IsErrAnd r (λ d. d ≡ e)
      → LooksUp g old new tree columns IsSound r Answers
  looked_fault IsSeen row e (Ok a) is reads fails = absurd fails
  looked_fault IsSeen row e (Err d) is reads fails = record {
    asks = asks;
    answer = λ clean content has rows of. tt;
    fault = λ clean content has rows of.
        let it = shows clean content has rows of in
        let one = some_shown row it.0 is it.2 in
        subst (IsFault (state g old) (state g new) (AllByRecursion IsSound rows)) (sym fails)
        (row_fault (state g old) (state g new) (AllByRecursion IsSound rows) (IsSound one.0) e (λ sound. one_sound rows it.0 one.0 it.1 sound one.1) (reads.fault one.0 one.2));
  }

-- Lemmas: a query for one integer returns the first column of the first result row. It returns None
-- without a row, and `Damaged` if the integer is out of its range.

module _ {S X : Type 0} (g : Ghosts S) (old new : Held S) (tree : ℕ) (columns : X → Row) (IsSound : X → Type 0) (asks : Asks g old new) (passes : X → Bool) (Later : X → X → Type 0) (shown : X → Row)
    (items : List Row) (shows : ReportsAnswer {A = List Row} g old new tree columns (Ok items) (ShowsFirst passes Later shown)) (Answers : List X → Option ℕ → Type 0) (low high : ℕ) (of : X → ℕ)
    (reads : (row : Row) (r : Result ℕ RowFault) → r ≡ or_damaged (whole_in low high (column row 0)) → ReadsRow row shown (λ x n. n ≡ of x) IsSound r)
    (none : (xs found : List X) → AreFound passes Later xs found → slice_get found 0 ≡ None → Answers xs None)
    (some : (xs found : List X) (x : X) (n : ℕ) → AreFound passes Later xs found → slice_get found 0 ≡ Some x → n ≡ of x → Answers xs (Some n)) where
  looked_row : (row : Row) (r : Result ℕ RowFault) → slice_get items 0 ≡ Some row → r ≡ or_damaged (whole_in low high (column row 0)) → LooksUp g old new tree columns IsSound (and_then r (λ n. Ok (Some n))) Answers
  looked_row row (Ok n) is read =
      looked_some g old new tree columns IsSound asks passes Later shown items shows Answers (λ x m. m ≡ of x) row n is (reads row (Ok n) read) (λ xs found x are at seen. some xs found x n are at seen)
  looked_row row (Err e) is read =
      looked_fault g old new tree columns IsSound asks passes Later shown items shows Answers (λ x m. m ≡ of x) row e (Err e) is (reads row (Err e) read) refl

  looked_of : (o : Option Row) → slice_get items 0 ≡ o → LooksUp g old new tree columns IsSound (first_of low high o) Answers
  looked_of None is = looked_none g old new tree columns IsSound asks passes Later shown items shows Answers is none
  looked_of (Some row) is = looked_row row (or_damaged (whole_in low high (column row 0))) is refl

  pub looked_number : (r : Result (Option ℕ) RowFault) → r ≡ first_in low high items → LooksUp g old new tree columns IsSound r Answers
  looked_number r is = subst (λ s. LooksUp g old new tree columns IsSound s Answers) (sym is) (looked_of (slice_get items 0) refl)

pub at_most : (low high : ℕ) (r : Result (Option ℕ) RowFault) → IfOk r (λ found. IfSome found (λ n. (low ≤ n) × (n ≤ high))) → IfOk r (λ found. IfSome found (λ n. n ≤ high))
at_most low high (Err e) h = tt
at_most low high (Ok None) h = tt
at_most low high (Ok (Some n)) h = h.1
