-- Proofs that a query finds the row with a key, and that the reader of the row returns the row's
-- value.
use Rattle.std.proofs.Common.{◌≡◌, ℕ, Bool, List, [], ◌∷◌, map, take, slice_get, Some, Ok, Err, Result, IsErrAnd, refl, sym, ap, ◌∙◌}
use Rattle.sqlite.specs.Order.{Row}
use Rattle.sqlite.specs.Store.{Ghosts}
use Rattle.sqlite.specs.Held.{Held, state}
use Rattle.sqlite.specs.declared.error.Error.{Error}
use Rattle.store_tables.specs.declared.faults.RowFault.{RowFault}
use Rattle.store_tables.specs.Answer.{AnyOrder}
use Rattle.store_tables.specs.Asking.{AsksInside, ReportsAnswer, ShowsFirst, ReadsRow}
use Rattle.store_tables.specs.Content.{Content}
use Rattle.store_tables.proofs.Selects.{found_some}
use Rattle.office_store.specs.Going.{Goes, Reported}
use Rattle.office_store.proofs.GoingLemmas.{of_answer, reported_less}
use Rattle.office_store.specs.Bookings.Places.{Answered, IsSeenIn}

-- If a call makes one query and then returns an error, the call commits nothing.
pub asked_refused : {S A D Y E : Type 0} (g : Ghosts S) (old new : Held S) (r : Result A D) (e : E) (Makes : Content → Content → Type 0) → AsksInside g old new r
    → Goes {X = Y} (state g old) (state g new) (Err e) Makes
asked_refused g old new r e Makes asks = record { kept = λ clean inside content has. asks.kept clean content has; makes = λ clean inside content has. tt; survives = asks.survives }

pub asked_stopped : {S A D Y E : Type 0} (T : E → Type 0) (g : Ghosts S) (old new : Held S) (r : Result A D) (q : Result Y E) (Makes : Y → Content → Content → Type 0) → AsksInside g old new r → IsErrAnd q T
    → Goes (state g old) (state g new) q (Answered q Makes)
asked_stopped T g old new r (Ok y) Makes asks is = absurd is
asked_stopped T g old new r (Err e) Makes asks is = asked_refused g old new r e (Answered (Err e) Makes) asks

module _ {X : Type 0} (passes : X → Bool) (shown : X → Row) where
  first_shown : (row : Row) (items : List Row) (found : List X) → slice_get items 0 ≡ Some row → items ≡ take 1 (map shown found) → (x : X) × (slice_get found 0 ≡ Some x) × (row ≡ shown x)
  first_shown row items [] is e = absurd (let f = sym is ∙ ap (λ rs. slice_get rs 0) e in cc)
  first_shown row items (x ∷ found) is e = (x, refl, (let f : Some row ≡ Some (shown x) = sym is ∙ ap (λ rs. slice_get rs 0) e in cc))

  -- Suppose that a look-up's query returns a row, and the look-up computes its answer from the
  -- row's value. Then this is the answer for the stored row with the key.
  pub seen_reported : {S A B Q : Type 0} (g : Ghosts S) (old new : Held S) (tree : ℕ) (columns : X → Row) (rows : Q) (items : List Row) (row : Row) (a : A) (b : B)
      (IsRead : X → A → Type 0) (IsSound : X → Type 0) (IsSeen : X → B → Type 0) → ((x : X) → IsRead x a → IsSeen x b)
      → AsksInside {X = Q} {E = Error} g old new (Ok rows) → ReportsAnswer g old new tree columns (Ok rows) (λ xs a. ShowsFirst passes AnyOrder shown xs items)
      → slice_get items 0 ≡ Some row → ReadsRow row shown IsRead IsSound (Ok a)
      → Goes {X = B} {E = RowFault} (state g old) (state g new) (Ok b) (IsSeenIn tree columns passes IsSeen b)
  seen_reported g old new tree columns rows items row a b IsRead IsSound IsSeen reports_more asks reports is reads =
      reported_less {D = Error} (state g old) (state g new) rows b (Reported tree columns (λ xs a. ShowsFirst passes AnyOrder shown xs items) rows) (IsSeenIn tree columns passes IsSeen b)
      (λ content after (reported : Reported tree columns (λ xs a. ShowsFirst passes AnyOrder shown xs items) rows content after). record {
        same = reported.same;
        seen = λ xs has.
            let it = reported.answers xs has in
            let one = first_shown row items it.0 is it.2 in
            found_some passes IsSeen AnyOrder xs it.0 one.0 b it.1 one.1 (reports_more one.0 (reads.read one.0 one.2));
      })
      (of_answer g old new tree columns (λ xs a. ShowsFirst passes AnyOrder shown xs items) rows asks reports)

  -- Suppose that a look-up's query returns a row, and the look-up returns the row's value. Then
  -- this is the value of the stored row with the key.
  pub read_reported : {S A Q : Type 0} (g : Ghosts S) (old new : Held S) (tree : ℕ) (columns : X → Row) (rows : Q) (items : List Row) (row : Row) (r : Result A RowFault)
      (IsSeen : X → A → Type 0) (IsSound : X → Type 0)
      → AsksInside {X = Q} {E = Error} g old new (Ok rows) → ReportsAnswer g old new tree columns (Ok rows) (λ xs a. ShowsFirst passes AnyOrder shown xs items)
      → slice_get items 0 ≡ Some row → ReadsRow row shown IsSeen IsSound r
      → Goes (state g old) (state g new) r (Answered r (IsSeenIn tree columns passes IsSeen))
  read_reported {Q = Q} g old new tree columns rows items row (Ok a) IsSeen IsSound asks reports is reads =
      seen_reported g old new tree columns rows items row a a IsSeen IsSound IsSeen (λ x seen. seen) asks reports is reads
  read_reported {A = A} {Q = Q} g old new tree columns rows items row (Err e) IsSeen IsSound asks reports is reads =
      let asked : Result Q Error = Ok rows in
      asked_refused g old new asked e (Answered {X = A} {E = RowFault} (Err e) (IsSeenIn tree columns passes IsSeen)) asks
