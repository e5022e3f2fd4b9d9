-- Proofs about the rows of `intervals` (a meter's energy by quarter hour) for lawful records, of
-- which the store's rules accepted each after the earlier ones. A meter's rows have distinct
-- starts, and none has more energy than the greatest total of a meter.
use Rattle.std.proofs.Common.{◌≡◌, ℕ, ◌+◌, ◌*◌, ◌^◌, ◌<◌, ◌≤◌, ◌==◌, ◌||◌, Bool, true, false, cond, inl, inr, List, [], ◌∷◌, map, filter, Option, Some, None, bytes_eq, refl, sym, ap, ap₂, subst, ◌∙◌, IsPermutation, arith}
use Rattle.std.specs.Prelude.{sum_by}
use Rattle.std.specs.List.{list_any, AllByRecursion, find, Contains}
use Rattle.std.proofs.lemmas.Bool.{cases_Bool, cond-true, cond-false}
use Rattle.std.proofs.lemmas.Bool.Decides.{nat_tests}
use Rattle.std.proofs.lemmas.List.Sums.{sum_by-cons}
use Rattle.std.proofs.lemmas.List.Sorted.{All-permutation, IsPermutation-sym}
use Rattle.std.proofs.lemmas.List.Elements.{All-from_recursion, recursion_from_All, Contains-get_or, Contains-append_left, Contains-append_right}
use Rattle.interval_core.specs.declared.shares.Share.{Share}
use Rattle.interval_core.specs.Account.{energy_of}
use Rattle.meter_journal.proofs.Merging.{Above, Rising, rising_of}
use Rattle.office_events.specs.declared.facts.Opening.{Opening}
use Rattle.office_events.specs.declared.facts.Fact.{Fact}
use Rattle.office_books.specs.Facts.{same, openings_in, opening_of}
use Rattle.office_books.specs.Intervals.{rows_of_opening, rows_of_installed, rows_of_meter}
use Rattle.office_books.specs.Lawful.{AreLawful}
use Rattle.office_books.specs.Meters.{installation_of}
use Rattle.office_books.specs.Laws.{IsRecorded, MetersAreKept}
use Rattle.office_books.specs.Ranges.{InstallationsAreInRange}
use Rattle.store_tables.specs.Meters.Rows.{greatest_total}
use Rattle.office_store.specs.Intervals.Rows.{Interval, is_of}
use Rattle.office_store.specs.Intervals.StepShares.{AreSmall}
use Rattle.office_store.specs.Rows.{interval_of}
use Rattle.office_store.proofs.Passing.{all_passing}
use Rattle.office_store.proofs.Booked.{AreApart, has_start, itself}

none_above : (start : ℕ) (rows : List Share) → Above start rows → list_any (has_start start) rows ≡ false
none_above start [] h = refl
none_above start (row ∷ rows) h =
    let lt : start < row.start = h.0 in
    let off : row.start == start ≡ false = grind (arith, nat_tests, lt) in
    ap (λ b. b || list_any (has_start start) rows) off ∙ none_above start rows h.1

pub apart_rising : (rows : List Share) → Rising rows → AreApart rows
apart_rising [] h = tt
apart_rising (row ∷ rows) h = (none_above row.start rows h.0, apart_rising rows h.1)

within_sum : (n : ℕ) (rows : List Share) → sum_by (λ (row : Share). row.mwh) rows ≤ n → AllByRecursion (λ (row : Share). row.mwh ≤ n) rows
within_sum n [] h = tt
within_sum n (row ∷ rows) h =
    let parts = sum_by-cons (λ (row : Share). row.mwh) row rows in
    (omega (arith, h, parts), within_sum n rows (omega (arith, h, parts)))

-- If a search for an element in a list finds an element, the list contains this element.
pub found_recorded : {X : Type 0} (p : X → Bool) (xs : List X) (x : X) → find p xs ≡ Some x → Contains xs x
found_recorded p [] x h = absurd (cc)
found_recorded p (y ∷ ys) x h =
    elim (cases_Bool (p y)) [
      | inl is ↦ let same_one : y ≡ x = (let e : Some y ≡ Some x = sym (cond-true _ _ _ is) ∙ h in cc) in subst (Contains (y ∷ ys)) same_one (Contains-append_left (y ∷ []) ys y (Contains-get_or (y ∷ []) 0 y (omega arith)))
      | inr off ↦ Contains-append_right (y ∷ []) ys x (found_recorded p ys x (sym (cond-false _ _ _ off) ∙ h))
    ]

module _ (kept : MetersAreKept) (ranges : InstallationsAreInRange) where
  pub opening_apart : (facts : List Fact) (o : Opening) → AreLawful facts → IsRecorded facts o → AreApart (rows_of_opening facts o)
  opening_apart facts o lawful there = apart_rising _ (rising_of _ (kept facts o lawful there).rows.in_order)

  opening_small : (facts : List Fact) (o : Opening) → AreLawful facts → IsRecorded facts o → AllByRecursion (λ (row : Share). row.mwh ≤ greatest_total) (rows_of_opening facts o)
  opening_small facts o lawful there =
      let whole = (kept facts o lawful there).sum in
      let limit = ((ranges facts lawful).recorded o there).total in
      within_sum greatest_total (rows_of_opening facts o) (omega (arith, whole, limit))

  installed_small : (facts : List Fact) (meter : List ℕ) (found : Option Opening) → AreLawful facts → opening_of facts meter ≡ found
      → AllByRecursion (λ (row : Share). row.mwh ≤ greatest_total) (rows_of_installed facts found)
  installed_small facts meter None lawful is = tt
  installed_small facts meter (Some o) lawful is =
      opening_small facts o lawful (found_recorded (λ (x : Opening). same x.meter meter) (openings_in facts) o is)

  all_mapped : (meter : List ℕ) (rows : List Share) → AllByRecursion (λ (row : Share). row.mwh ≤ greatest_total) rows
      → AllByRecursion (λ (i : Interval). i.share.mwh ≤ greatest_total) (map (interval_of meter) rows)
  all_mapped meter [] h = tt
  all_mapped meter (row ∷ rows) h = (h.0, all_mapped meter rows h.1)

  each_small : (facts : List Fact) (rows : List Interval) (meter : List ℕ) → AreLawful facts
      → IsPermutation (filter (is_of meter) rows) (map (interval_of meter) (rows_of_meter facts meter))
      → AllByRecursion (λ (i : Interval). i.share.mwh ≤ greatest_total) (filter (is_of meter) rows)
  each_small facts rows meter lawful are =
      recursion_from_All _ _ (All-permutation (λ (i : Interval). i.share.mwh ≤ greatest_total) _ _ (IsPermutation-sym _ _ are)
      (All-from_recursion _ _ (all_mapped meter (rows_of_meter facts meter) (installed_small facts meter (opening_of facts meter) lawful refl))))

  -- If, for each meter, every row of `intervals` has at most the greatest total energy of a meter,
  -- this bound holds for every row.
  all_of_each : (rows : List Interval) → ((meter : List ℕ) → AllByRecursion (λ (i : Interval). i.share.mwh ≤ greatest_total) (filter (is_of meter) rows)) → AreSmall rows
  all_of_each [] each = tt
  all_of_each (i ∷ rows) each =
      (first (itself i.meter) (each i.meter), all_of_each rows (λ meter. rest meter (is_of meter i) refl (each meter)))
    where
      first : bytes_eq i.meter i.meter ≡ true → AllByRecursion (λ (j : Interval). j.share.mwh ≤ greatest_total) (cond (bytes_eq i.meter i.meter) (i ∷ filter (is_of i.meter) rows) (filter (is_of i.meter) rows)) → i.share.mwh ≤ greatest_total
      first e h = (subst (AllByRecursion (λ (j : Interval). j.share.mwh ≤ greatest_total)) (cond-true _ _ _ e) h).0

      rest : (meter : List ℕ) (b : Bool) → is_of meter i ≡ b → AllByRecursion (λ (j : Interval). j.share.mwh ≤ greatest_total) (cond b (i ∷ filter (is_of meter) rows) (filter (is_of meter) rows))
          → AllByRecursion (λ (j : Interval). j.share.mwh ≤ greatest_total) (filter (is_of meter) rows)
      rest meter true e h = h.1
      rest meter false e h = h

  pub rows_small : (facts : List Fact) (rows : List Interval) → AreLawful facts
      → ((meter : List ℕ) → IsPermutation (filter (is_of meter) rows) (map (interval_of meter) (rows_of_meter facts meter))) → AreSmall rows
  rows_small facts rows lawful each = all_of_each rows (λ meter. each_small facts rows meter lawful (each meter))
