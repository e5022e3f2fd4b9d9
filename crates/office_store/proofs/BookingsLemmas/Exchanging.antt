-- Proofs that, after a false reading was voided (cancelled), a meter's rows of `intervals` (energy
-- by quarter hour) encode the quarter hours with the changed energies.
use Rattle.std.proofs.Common.{◌≡◌, ℕ, ◌-◌, ◌≤◌, ◌<◌, ◌==◌, ◌&&◌, not, Bool, true, false, cond, inl, inr, List, [], ◌∷◌, ◌++◌, map, filter, bytes_eq, nat_le, nat_lt, refl, sym, ap, subst, ◌∙◌, arith, eqb-true, IsPermutation}
use Rattle.std.specs.List.{list_any, AllByRecursion}
use Rattle.std.proofs.lemmas.Bool.{cases_Bool, cond-true, cond-false, and_parts}
use Rattle.std.proofs.lemmas.Bool.Decides.{nat_tests}
use Rattle.std.proofs.lemmas.List.Elements.{recursion_from_All, All-from_recursion}
use Rattle.std.proofs.lemmas.List.Sorted.{All-permutation, IsPermutation-sym, IsPermutation-map}
use Rattle.sqlite_keyed.proofs.ListLemmas.{filter-map, map-map, IsPermutation-filter}
use Rattle.std.proofs.lemmas.Slice.Eq.{bytes_eq-Decides}
use Rattle.interval_core.specs.declared.shares.Share.{Share}
use Rattle.meter_journal.specs.Intervals as journal
use Rattle.meter_journal.specs.Voids.{AreTherein, rows_until}
use Rattle.store_tables.specs.Content.{Content, HasRows, without_where}
use Rattle.store_tables.specs.Meters.Rows.{greatest_total}
use Rattle.office_store.specs.Intervals.Trees.{intervals}
use Rattle.office_store.specs.Intervals.Rows.{Interval, interval_columns, is_of, is_at, start_of}
use Rattle.office_store.specs.Intervals.StepShares.{EditsIf, with_shares}
use Rattle.office_store.specs.Rows.{interval_of}
use Rattle.office_store.proofs.Booked.{AreApart, AreRowsOf, has_start, itself, booked, others_booked}
use Rattle.office_store.proofs.Passing.{map_agree, any_agree, any_map, filter_edited, filter_spared, all_passing}
use Rattle.office_store.specs.Voids.Withdrawal.{lowered, without_share, without_shares, HasShare, HaveShares, TakesShares, starts_from, DropsRows}
use Rattle.office_store.specs.Bookings.Corrections.{gone_from}

less_start : (b : Bool) (share row : Share) → (let made : Share = cond b (record { start = row.start; mwh = row.mwh - share.mwh }) row in made.start) ≡ row.start
less_start true share row = refl
less_start false share row = refl

less_mwh : (b : Bool) (share row : Share) → (let made : Share = cond b (record { start = row.start; mwh = row.mwh - share.mwh }) row in made.mwh) ≤ row.mwh
less_mwh true share row = omega arith
less_mwh false share row = omega arith

abbrev pub IsSmall : Share → Type 0
IsSmall row = row.mwh ≤ greatest_total

small_less : (share : Share) (rows : List Share) → AllByRecursion IsSmall rows → AllByRecursion IsSmall (journal.without_share share rows)
small_less share [] small = tt
small_less share (row ∷ rows) small = (let le = less_mwh (row.start == share.start) share row in let was = small.0 in omega (arith, le, was), small_less share rows small.1)

any_less : (share : Share) (start : ℕ) (rows : List Share) → list_any (has_start start) (journal.without_share share rows) ≡ list_any (has_start start) rows
any_less share start rows =
    any_map (has_start start) (journal.less share) rows
    ∙ any_agree (λ row. has_start start (journal.less share row)) (has_start start) (λ row. ap (λ n. n == start) (less_start (row.start == share.start) share row)) rows

apart_less : (share : Share) (rows : List Share) → AreApart rows → AreApart (journal.without_share share rows)
apart_less share [] h = tt
apart_less share (row ∷ rows) h =
    (any_less share (journal.less share row).start rows ∙ ap (λ s. list_any (has_start s) rows) (less_start (row.start == share.start) share row) ∙ h.0, apart_less share rows h.1)

pub apart_without : (shares rows : List Share) → AreApart rows → AreApart (journal.without_each shares rows)
apart_without [] rows h = h
apart_without (share ∷ shares) rows h = apart_without shares (journal.without_share share rows) (apart_less share rows h)

small_without : (shares rows : List Share) → AllByRecursion IsSmall rows → AllByRecursion IsSmall (journal.without_each shares rows)
small_without [] rows h = h
small_without (share ∷ shares) rows h = small_without shares (journal.without_share share rows) (small_less share rows h)

pub starts_below_less : (bound : ℕ) (share : Share) (rows : List Share) → AllByRecursion (λ (row : Share). row.start < bound) rows → AllByRecursion (λ (row : Share). row.start < bound) (journal.without_share share rows)
starts_below_less bound share [] h = tt
starts_below_less bound share (row ∷ rows) h =
    (subst (λ n. n < bound) (sym (less_start (row.start == share.start) share row)) h.0, starts_below_less bound share rows h.1)

pub starts_below_without : (bound : ℕ) (shares rows : List Share) → AllByRecursion (λ (row : Share). row.start < bound) rows → AllByRecursion (λ (row : Share). row.start < bound) (journal.without_each shares rows)
starts_below_without bound [] rows h = h
starts_below_without bound (share ∷ shares) rows h = starts_below_without bound shares (journal.without_share share rows) (starts_below_less bound share rows h)

-- If all quarter hours in a list start before a bound, they all still start before the bound after
-- energy is added in a quarter hour before the bound.
below_with : (bound : ℕ) (share : Share) (rows : List Share) → share.start < bound → AllByRecursion (λ (row : Share). row.start < bound) rows → AllByRecursion (λ (row : Share). row.start < bound) (journal.with_share share rows)
below_with bound share [] low h = (low, tt)
below_with bound share (row ∷ rows) low h = elim (cases_Bool (row.start == share.start)) [
  | inl is ↦ subst (AllByRecursion (λ (r : Share). r.start < bound)) (sym (cond-true _ _ _ is)) (h.0, h.1)
  | inr off ↦ subst (AllByRecursion (λ (r : Share). r.start < bound)) (sym (cond-false _ _ _ off)) (h.0, below_with bound share rows low h.1)
]

pub starts_below_with : (bound : ℕ) (shares rows : List Share) → AllByRecursion (λ (row : Share). row.start < bound) shares → AllByRecursion (λ (row : Share). row.start < bound) rows
    → AllByRecursion (λ (row : Share). row.start < bound) (journal.with_each shares rows)
starts_below_with bound [] rows low h = h
starts_below_with bound (share ∷ shares) rows low h = starts_below_with bound shares (journal.with_share share rows) low.1 (below_with bound share rows low.0 h)

-- If all of a meter's rows of `intervals` start before its last entry, a void (the cancellation of
-- a reading) deletes none of these rows.
pub none_gone : (opened last : ℕ) (rows : List Share) → opened < last → AllByRecursion (λ (row : Share). row.start < last) rows → rows_until opened last rows ≡ rows
none_gone opened last rows later low = cond-false (last == opened) [] (filter (λ (row : Share). nat_lt row.start last) rows) (grind (arith, nat_tests, later)) ∙ all_stay rows low
  where
    all_stay : (rows : List Share) → AllByRecursion (λ (row : Share). row.start < last) rows → filter (λ (row : Share). nat_lt row.start last) rows ≡ rows
    all_stay [] h = refl
    all_stay (row ∷ rows) h = let first = h.0 in cond-true (nat_lt row.start last) _ _ (grind (arith, nat_tests, first)) ∙ ap (λ rs. row ∷ rs) (all_stay rows h.1)

pub several_taken : (one two rows : List Share) → journal.without_each (one ++ two) rows ≡ journal.without_each two (journal.without_each one rows)
several_taken [] two rows = refl
several_taken (share ∷ one) two rows = several_taken one two (journal.without_share share rows)

pub several_therein : (one two rows : List Share) → AreTherein (one ++ two) rows → AreTherein one rows × AreTherein two (journal.without_each one rows)
several_therein [] two rows h = (tt, h)
several_therein (share ∷ one) two rows h = let rest = several_therein one two (journal.without_share share rows) h.1 in ((h.0, rest.0), rest.1)

-- Suppose that a meter's rows of the table `intervals` encode a list of quarter hours, each with
-- its start and its energy. Lemmas: if energy is subtracted from these rows or added to them, they
-- encode the list with this energy subtracted or added.

module _ (meter : List ℕ) where
  at_start : (start : ℕ) (share : Share) → is_at meter start (interval_of meter share) ≡ has_start start share
  at_start start share = ap (λ b. b && (share.start == start)) (itself meter)

  -- Suppose that a meter's rows of `intervals` encode the quarter hours `shares`. Suppose also that
  -- `f` changes no row's meter, and changes the row of each quarter hour `share` to the row of
  -- `h share`. After `f` is applied to each row, the meter's rows encode `map h shares`.
  edited : (f : Interval → Interval) (h : Share → Share) (rows : List Interval) (shares : List Share)
      → ((i : Interval) → (f i).meter ≡ i.meter) → ((share : Share) → f (interval_of meter share) ≡ interval_of meter (h share))
      → AreRowsOf meter rows shares → AreRowsOf meter (map f rows) (map h shares)
  edited f h rows shares keeps does are =
      let left : filter (is_of meter) (map f rows) ≡ map f (filter (is_of meter) rows) =
      filter_edited (is_of meter) f (λ i. ap (λ m. bytes_eq m meter) (keeps i)) rows in
      let right : map f (map (interval_of meter) shares) ≡ map (interval_of meter) (map h shares) =
      map-map f (interval_of meter) shares ∙ map_agree (λ share. f (interval_of meter share)) (λ share. interval_of meter (h share)) does shares
      ∙ sym (map-map (interval_of meter) h shares) in
      subst (λ l. IsPermutation l (map (interval_of meter) (map h shares))) (sym left)
      (subst (IsPermutation (map f (filter (is_of meter) rows))) right (IsPermutation-map f _ _ are))

  lower_step : (b : Bool) (share x : Share)
      → cond b (lowered share.mwh (interval_of meter x)) (interval_of meter x) ≡ interval_of meter (cond b (record { start = x.start; mwh = x.mwh - share.mwh }) x)
  lower_step true share x = refl
  lower_step false share x = refl

  lower_meter : (b : Bool) (share : Share) (i : Interval) → (let made : Interval = cond b (lowered share.mwh i) i in made.meter) ≡ i.meter
  lower_meter true share i = refl
  lower_meter false share i = refl

  taken_one : (share : Share) (rows : List Interval) (shares : List Share) → AreRowsOf meter rows shares → AreRowsOf meter (without_share meter share rows) (journal.without_share share shares)
  taken_one share rows shares are =
      edited (λ i. cond (is_at meter share.start i) (lowered share.mwh i) i) (journal.less share) rows shares
      (λ i. lower_meter (is_at meter share.start i) share i)
      (λ x. ap (λ b. cond b (lowered share.mwh (interval_of meter x)) (interval_of meter x)) (at_start share.start x) ∙ lower_step (x.start == share.start) share x) are

  pub taken : (outs : List Share) (rows : List Interval) (shares : List Share) → AreRowsOf meter rows shares → AreRowsOf meter (without_shares meter outs rows) (journal.without_each outs shares)
  taken [] rows shares are = are
  taken (share ∷ outs) rows shares are = taken outs (without_share meter share rows) (journal.without_share share shares) (taken_one share rows shares are)

  -- If a meter's quarter hour in the store's records has at least a given energy, its row of
  -- `intervals` also has at least this energy.
  each_has : (share : Share) (shares : List Share) → AllByRecursion (λ (row : Share). row.start ≡ share.start → share.mwh ≤ row.mwh) shares → AllByRecursion IsSmall shares
      → AllByRecursion (HasShare meter share) (map (interval_of meter) shares)
  each_has share [] has small = tt
  each_has share (row ∷ shares) has small =
      ((λ is. (has.0 (eqb-true row.start share.start (and_parts (bytes_eq meter meter) (row.start == share.start) is).1), small.0)), each_has share shares has.1 small.1)

  has_one : (share : Share) (rows : List Interval) (shares : List Share) → AreRowsOf meter rows shares → AllByRecursion (HasShare meter share) (map (interval_of meter) shares) → AllByRecursion (HasShare meter share) rows
  has_one share rows shares are has =
      all_passing (HasShare meter share) (is_of meter) (λ i off is. absurd (let on = (and_parts (bytes_eq i.meter meter) (i.share.start == share.start) is).0 in let f : true ≡ false = sym on ∙ off in cc)) rows
      (recursion_from_All (HasShare meter share) _ (All-permutation (HasShare meter share) _ _ (IsPermutation-sym _ _ are) (All-from_recursion (HasShare meter share) _ has)))

  pub have : (outs : List Share) (rows : List Interval) (shares : List Share) → AreRowsOf meter rows shares → AreTherein outs shares → AllByRecursion IsSmall shares → HaveShares meter outs rows
  have [] rows shares are therein small = tt
  have (share ∷ outs) rows shares are therein small = (
    has_one share rows shares are (each_has share shares (recursion_from_All _ _ therein.0) small),
    have outs (without_share meter share rows) (journal.without_share share shares) (taken_one share rows shares are) therein.1 (small_less share shares small),
  )

  -- Lemmas for the void (cancellation) of a meter's last reading: if the meter's rows of
  -- `intervals` that start at or after the time `from` are deleted, exactly its earlier rows
  -- remain.

  module _ (from : ℕ) where
    abbrev early : Interval → Bool
    early i = nat_lt (start_of i) from

    early_or_late : (a b : ℕ) → nat_lt a b ≡ not (nat_le b a)
    early_or_late a b = elim (cases_Bool (nat_le b a)) [
      | inl late ↦ let off : nat_lt a b ≡ false = grind (arith, nat_tests, late) in off ∙ sym (ap not late)
      | inr not_late ↦ let on : nat_lt a b ≡ true = grind (arith, nat_tests, not_late) in on ∙ sym (ap not not_late)
    ]

    gone_step : (own late : Bool) (i : Interval) (l f : List Interval) → is_of meter i ≡ own → early i ≡ not late → filter (is_of meter) l ≡ filter early f
        → filter (is_of meter) (cond (not (own && late)) (i ∷ l) l) ≡ filter early (cond own (i ∷ f) f)
    gone_step true true i l f own is more = more ∙ sym (cond-false _ _ _ is)
    gone_step true false i l f own is more = cond-true _ _ _ own ∙ (ap (λ is. i ∷ is) more ∙ sym (cond-true _ _ _ is))
    gone_step false late i l f own is more = cond-false _ _ _ own ∙ more

    gone : (rows : List Interval) → filter (is_of meter) (without_where (starts_from meter from) rows) ≡ filter early (filter (is_of meter) rows)
    gone [] = refl
    gone (i ∷ rows) =
        gone_step (is_of meter i) (nat_le from (start_of i)) i (without_where (starts_from meter from) rows) (filter (is_of meter) rows) refl (early_or_late (start_of i) from) (gone rows)

    pub dropped : (rows : List Interval) (shares : List Share) → AreRowsOf meter rows shares → AreRowsOf meter (without_where (starts_from meter from) rows) (filter (λ (row : Share). nat_lt row.start from) shares)
    dropped rows shares are =
        subst (λ l. IsPermutation l (map (interval_of meter) (filter (λ (row : Share). nat_lt row.start from) shares))) (sym (gone rows))
        (subst (IsPermutation (filter early (filter (is_of meter) rows))) (filter-map early (interval_of meter) shares) (IsPermutation-filter early _ _ are))

  none_below : (shares : List Share) → filter (λ (row : Share). nat_lt row.start 0) shares ≡ []
  none_below [] = refl
  none_below (row ∷ shares) = cond-false (nat_lt row.start 0) _ _ (grind (arith, nat_tests)) ∙ none_below shares

  pub until_is : (opened last : ℕ) (shares : List Share) → filter (λ (row : Share). nat_lt row.start (gone_from opened last)) shares ≡ rows_until opened last shares
  until_is opened last shares = elim (cases_Bool (last == opened)) [
    | inl is ↦ ap (λ n. filter (λ (row : Share). nat_lt row.start n) shares) (cond-true (last == opened) 0 last is) ∙ (none_below shares ∙ sym (cond-true (last == opened) [] (filter (λ (row : Share). nat_lt row.start last) shares) is))
    | inr off ↦ ap (λ n. filter (λ (row : Share). nat_lt row.start n) shares) (cond-false (last == opened) 0 last off) ∙ sym (cond-false (last == opened) [] (filter (λ (row : Share). nat_lt row.start last) shares) off)
  ]

  -- Lemmas that, if a reading of one meter is voided (cancelled), the rows of `intervals` for all
  -- other meters stay unchanged.

  module _ (other : List ℕ) (off : bytes_eq meter other ≡ false) where
    apart_from : (i : Interval) → is_of other i ≡ true → is_of meter i ≡ false
    apart_from i is = elim (cases_Bool (is_of meter i)) [
      | inl mine ↦
          let at_other : i.meter ≡ other = (bytes_eq-Decides i.meter other).0 is in
          let at_meter : i.meter ≡ meter = (bytes_eq-Decides i.meter meter).0 mine in
          let e : bytes_eq meter other ≡ true = (bytes_eq-Decides meter other).1 (sym at_meter ∙ at_other) in
          let f : true ≡ false = sym e ∙ off in absurd (cc)
      | inr not_mine ↦ not_mine
    ]

    others_taken : (outs : List Share) (rows : List Interval) → filter (is_of other) (without_shares meter outs rows) ≡ filter (is_of other) rows
    others_taken [] rows = refl
    others_taken (share ∷ outs) rows =
        others_taken outs (without_share meter share rows)
        ∙ filter_spared (is_of other) (λ i. cond (is_at meter share.start i) (lowered share.mwh i) i)
        (λ i. ap (λ m. bytes_eq m other) (lower_meter (is_at meter share.start i) share i))
        (λ i is. cond-false _ _ _ (ap (λ b. b && (i.share.start == share.start)) (apart_from i is))) rows

    kept_step : (own late theirs : Bool) (i : Interval) (l rows : List Interval) → is_of meter i ≡ own → is_of other i ≡ theirs → filter (is_of other) l ≡ filter (is_of other) rows
        → filter (is_of other) (cond (not (own && late)) (i ∷ l) l) ≡ cond theirs (i ∷ filter (is_of other) rows) (filter (is_of other) rows)
    kept_step true late true i l rows own is more = absurd (let f : true ≡ false = sym own ∙ apart_from i is in cc)
    kept_step true true false i l rows own is more = more
    kept_step true false false i l rows own is more = cond-false _ _ _ is ∙ more
    kept_step false late true i l rows own is more = cond-true _ _ _ is ∙ ap (λ is. i ∷ is) more
    kept_step false late false i l rows own is more = cond-false _ _ _ is ∙ more

    others_dropped : (from : ℕ) (rows : List Interval) → filter (is_of other) (without_where (starts_from meter from) rows) ≡ filter (is_of other) rows
    others_dropped from [] = refl
    others_dropped from (i ∷ rows) = kept_step (is_of meter i) (nat_le from (start_of i)) (is_of other i) i (without_where (starts_from meter from) rows) rows refl refl (others_dropped from rows)

-- Lemmas: all changes to `intervals` that voiding (cancelling) a meter's reading makes give the
-- meter the rows that its entries without this reading require. They change no other meter's rows.

module _ (meter : List ℕ) (A B C : List Share) (from : ℕ) (rows : List Interval) where
  abbrev pub less_rows : List Interval
  less_rows = without_shares meter B (without_shares meter A rows)

  abbrev pub write_rows : List Interval
  write_rows = with_shares meter C less_rows

  abbrev pub left_rows : List Interval
  left_rows = without_where (starts_from meter from) write_rows

  pub have_all : (old : List Share) → AreRowsOf meter rows old → AllByRecursion IsSmall old → AreTherein A old → AreTherein B (journal.without_each A old) → HaveShares meter A rows × HaveShares meter B (without_shares meter A rows)
  have_all old are small one two = (
    have meter A rows old are one small,
    have meter B (without_shares meter A rows) (journal.without_each A old) (taken meter A rows old are) two (small_without A old small),
  )

  pub there_then : (May : List Interval → Type 0) (x0 : Content) (x1 : Content) (x2 : Content) (x3 : Content) (x4 : Content) → HasRows intervals interval_columns rows x0 → HaveShares meter A rows → HaveShares meter B (without_shares meter A rows) → May less_rows
      → TakesShares meter A x0 x1 → TakesShares meter B x1 x2 → EditsIf May (with_shares meter C) x2 x3 → DropsRows meter from x3 x4 → HasRows intervals interval_columns left_rows x4
  there_then May x0 x1 x2 x3 x4 has one two may takes more puts drops =
      drops.rows write_rows (puts.rows less_rows (more.rows (without_shares meter A rows) (takes.rows rows has one) two) may)

  pub own_put : (old : List Share) → AreRowsOf meter rows old → AreApart old → AreRowsOf meter write_rows (journal.with_each C (journal.without_each B (journal.without_each A old)))
  own_put old are apart =
      booked meter C less_rows (journal.without_each B (journal.without_each A old)) (apart_without B (journal.without_each A old) (apart_without A old apart))
      (taken meter B (without_shares meter A rows) (journal.without_each A old) (taken meter A rows old are))

  pub own_left : (shares : List Share) → AreRowsOf meter write_rows shares → AreRowsOf meter left_rows (filter (λ (row : Share). nat_lt row.start from) shares)
  own_left shares are = dropped meter from write_rows shares are

  pub others_put : (other : List ℕ) → bytes_eq meter other ≡ false → filter (is_of other) write_rows ≡ filter (is_of other) rows
  others_put other off = others_booked meter other C less_rows off ∙ (others_taken meter other off B (without_shares meter A rows) ∙ others_taken meter other off A rows)

  pub others_left : (other : List ℕ) → bytes_eq meter other ≡ false → filter (is_of other) left_rows ≡ filter (is_of other) rows
  others_left other off = others_dropped meter other off from write_rows ∙ others_put other off
