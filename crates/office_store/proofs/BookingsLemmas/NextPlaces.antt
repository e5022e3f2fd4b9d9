-- Proofs that the next row's index is one more than the index that a query for the last row
-- returns, or 1 if no row exists.
use Rattle.std.proofs.Common.{◌≡◌, ℕ, ◌+◌, pos, Bool, true, false, cond, ◌&&◌, List, [], ◌∷◌, map, take, Option, Some, None, Ok, Err, Result, refl, sym, ap, ◌∙◌}
use Rattle.std.specs.Prelude.{nat_le}
use Rattle.sqlite.specs.declared.types.Value.TheVariants.{Int}
use Rattle.sqlite.specs.Order.{Row}
use Rattle.sqlite.specs.Store.{Ghosts}
use Rattle.sqlite.specs.Held.{Held, state}
use Rattle.sqlite.specs.declared.error.Error.{Error}
use Rattle.store_tables.specs.declared.faults.RowFault.{RowFault}
use Rattle.store_tables.specs.declared.faults.RowFault.TheVariants.{Damaged}
use Rattle.store_tables.specs.Columns.{or_damaged, and_then}
use Rattle.store_tables.specs.Limits.{greatest_place}
use Rattle.store_tables.specs.Answer.{AreFound, IsLast, LastFirst}
use Rattle.store_tables.specs.Asking.{AsksInside, ReportsAnswer, ShowsFirst}
use Rattle.store_tables.proofs.Selects.{found_none, last_some}
use Rattle.office_store.specs.Going.{Goes, Reported}
use Rattle.office_store.specs.Recording.{next_place, IsNext}
use Rattle.office_store.proofs.GoingLemmas.{of_answer, reported_less, then_refused}
use Rattle.office_store.specs.Bookings.Places.{one_on, next_in, Answered}

on_by : (b : Bool) (place n : ℕ) → (let r : Result ℕ RowFault = cond b (Err Damaged) (Ok (place + 1)) in r) ≡ Ok n → n ≡ place + 1
on_by true place n h = absurd (let e = h in cc)
on_by false place n h = let e = h in cc

read_by : (b : Bool) (place n : ℕ) → and_then (or_damaged (let o : Option ℕ = cond b (Some place) None in o)) one_on ≡ Ok n → n ≡ place + 1
read_by true place n h = on_by (nat_le greatest_place place) place n h
read_by false place n h = absurd (let e = h in cc)

module _ {X : Type 0} (passes : X → Bool) (key : X → ℕ) where
  abbrev shown : X → Row
  shown x = Int (pos (key x)) ∷ []

  counted : (xs found : List X) (items : List Row) (n : ℕ) → AreFound passes (LastFirst key) xs found → items ≡ take 1 (map shown found) → next_in items ≡ Ok n
      → (last : Option ℕ) × (n ≡ next_place last) × IsLast passes (λ x n. n ≡ key x) key xs last
  counted xs [] items n are is next =
      let one : Ok 1 ≡ Ok n = sym (ap next_in is) ∙ next in
      (None, (let e : n ≡ 1 = cc in e), found_none passes (λ x n. n ≡ key x) (LastFirst key) xs [] are refl)
  counted xs (x ∷ found) items n are is next =
      let one : next_in (shown x ∷ []) ≡ Ok n = sym (ap next_in is) ∙ next in
      (Some (key x), read_by (nat_le 1 (key x) && nat_le (key x) greatest_place) (key x) n one, last_some passes (λ x n. n ≡ key x) key xs (x ∷ found) x (key x) are refl refl)

  pub next_reported : {S : Type 0} {Q : Type 0} (g : Ghosts S) (old new : Held S) (tree : ℕ) (columns : X → Row) (rows : Q) (items : List Row) (r : Result ℕ RowFault)
      → AsksInside {X = Q} {E = Error} g old new (Ok rows) → ReportsAnswer g old new tree columns (Ok rows) (λ xs a. ShowsFirst passes (LastFirst key) shown xs items) → r ≡ next_in items
      → Goes {E = RowFault} (state g old) (state g new) r (Answered r (IsNext tree columns passes key))
  next_reported g old new tree columns rows items (Ok n) asks reports next =
      reported_less {D = Error} (state g old) (state g new) rows n (Reported tree columns (λ xs a. ShowsFirst passes (LastFirst key) shown xs items) rows) (IsNext tree columns passes key n)
      (λ content after (reported : Reported tree columns (λ xs a. ShowsFirst passes (LastFirst key) shown xs items) rows content after). record {
        same = reported.same;
        following = λ xs has. let it = reported.answers xs has in counted xs it.0 items n it.1 it.2 (sym next);
      })
      (of_answer g old new tree columns (λ xs a. ShowsFirst passes (LastFirst key) shown xs items) rows asks reports)
  next_reported g old new tree columns rows items (Err e) asks reports next =
      then_refused {D = Error} (state g old) (state g new) rows e (Reported tree columns (λ xs a. ShowsFirst passes (LastFirst key) shown xs items) rows) (Answered {X = ℕ} {E = RowFault} (Err e) (IsNext tree columns passes key))
      (of_answer g old new tree columns (λ xs a. ShowsFirst passes (LastFirst key) shown xs items) rows asks reports)
