-- Proofs about the rows of `intervals`, the table of energy by quarter hour: queries return them in
-- the order that the store's records give.
use Rattle.std.proofs.Common.{◌≡◌, ℕ, ◌+◌, ◌<◌, ◌≤◌, ◌==◌, ◌&&◌, ◌||◌, Bool, true, false, cond, inl, inr, ◌⊎◌, List, [], ◌∷◌, ◌++◌, map, filter, reverse, length, Option, Some, None, bytes_eq, refl, sym, ap, ap₂, subst, ◌∙◌, arith, append-nil, eq-eqb, eqb-true, lt-ltb, ltb-true, le-ltb, IsPermutation}
use Rattle.std.specs.Prelude.{min, nat_le, nat_lt}
use Rattle.std.specs.List.{AllByRecursion, flat_map}
use Rattle.std.proofs.lemmas.Bool.{cond-true, cond-false}
use Rattle.std.proofs.lemmas.Grind.{flat_map-append}
use Rattle.std.proofs.lemmas.List.{map-append}
use Rattle.std.proofs.lemmas.List.Elements.{filter-append}
use Rattle.std.proofs.lemmas.List.Sorted.{All-permutation, IsPermutation-refl, IsPermutation-sym, IsPermutation-trans, IsPermutation-map, IsPermutation-append, IsPermutation-append_comm}
use Rattle.sqlite.specs.Tree.{IsAscending}
use Rattle.sqlite_keyed.specs.Lists.{pairs}
use Rattle.sqlite_keyed.proofs.ListLemmas.{all_of, all_weaker, all_map, map-map, filter-map, filter_none, filter_same, ascending-map, ascending-append, ascending-filter, all-append, IsPermutation-filter, IsPermutation-same}
use Rattle.interval_core.specs.declared.shares.Share.{Share}
use Rattle.meter_journal.proofs.Merging.{Above, Rising, rising_of}
use Rattle.office_events.specs.declared.facts.Opening.{Opening}
use Rattle.office_events.specs.declared.facts.Fact.{Fact}
use Rattle.office_books.specs.Facts.{same, openings_in, opening_of}
use Rattle.office_books.specs.Intervals.{rows_of_opening, rows_of_installed, rows_of_meter, installations_at, rows_of_register}
use Rattle.office_books.specs.Lawful.{AreLawful}
use Rattle.office_books.specs.Laws.{IsRecorded, MetersAreKept}
use Rattle.office_books.proofs.Lists.{reverse_cons}
use Rattle.store_tables.specs.Answer.{AreFound, FirstFirst}
use Rattle.store_tables.specs.Meters.Rows.{Installed, installed_place, is_at}
use Rattle.office_store.specs.Intervals.Rows.{Interval, is_of, start_of, IsSoundShare, IsSoundInterval}
use Rattle.office_store.specs.Metering.Sound.{HasReadableIntervals}
use Rattle.std.proofs.lemmas.List.Elements.{recursion_from_All, All-from_recursion}
use Rattle.office_books.proofs.Lookups.{same_itself}
use Rattle.office_store.specs.Intervals.Handing.{AreSharesOfMeter, AreSharesOfMeterBetween, Lying, lies_at, is_between, ComesAfter, AreSharesAt, AreSharesAtBetween}
use Rattle.store_tables.specs.Limits.{latest_moment}
use Rattle.office_books.specs.declared.spans.Span.TheVariants.{Between}
use Rattle.office_books.specs.Spans.{rows_within}
use Rattle.office_books.specs.Registers.{RegistersAreInTurn}
use Rattle.office_store.proofs.MeteringLemmas.Spans.{one_by_one, bounded_rows, meter_in_time, register_in_time}
use Rattle.office_store.specs.Rows.{placed, installed_row, interval_of}
use Rattle.office_store.proofs.Energy.{found_recorded}
use Rattle.office_store.proofs.MeteringLemmas.Orders.{one_order}
use Rattle.office_store.proofs.MeteringLemmas.Found.{alone}

abbrev AreEach : (facts : List Fact) → (rows : List Interval) → Type 0
AreEach facts rows = (meter : List ℕ) → IsPermutation (filter (is_of meter) rows) (map (interval_of meter) (rows_of_meter facts meter))

-- If the energy of each quarter hour is in its range, the rows of `intervals` can be read.

sound_rows : (meter : List ℕ) (shares : List Share) → AllByRecursion IsSoundShare shares → AllByRecursion IsSoundInterval (map (interval_of meter) shares)
sound_rows meter [] h = tt
sound_rows meter (x ∷ xs) h = (h.0, sound_rows meter xs h.1)

sound_if : (b : Bool) (i : Interval) (is : List Interval) → b ≡ true → AllByRecursion IsSoundInterval (cond b (i ∷ is) is) → IsSoundInterval i
sound_if true i is on all = all.0
sound_if false i is on all = absurd (let e = on in cc)

less_rows : (b : Bool) (i : Interval) (is : List Interval) → AllByRecursion IsSoundInterval (cond b (i ∷ is) is) → AllByRecursion IsSoundInterval is
less_rows true i is all = all.1
less_rows false i is all = all

each_sound : (rows : List Interval) → ((meter : List ℕ) → AllByRecursion IsSoundInterval (filter (is_of meter) rows)) → AllByRecursion IsSoundInterval rows
each_sound [] h = tt
each_sound (i ∷ is) h = (sound_if (is_of i.meter i) i (filter (is_of i.meter) is) (same_itself i.meter) (h i.meter), each_sound is (λ meter. less_rows (is_of meter i) i (filter (is_of meter) is) (h meter)))

-- Suppose that, for each meter, every value in its rows of the table `intervals` (energy by quarter
-- hour) is in its column's range. Then this is true of all rows of the table.
pub all_sound : (facts : List Fact) (rows : List Interval) → AreEach facts rows → HasReadableIntervals facts → AllByRecursion IsSoundInterval rows
all_sound facts rows each sound =
    each_sound rows (λ meter. recursion_from_All IsSoundInterval _ (All-permutation IsSoundInterval _ _ (IsPermutation-sym _ _ (each meter)) (All-from_recursion IsSoundInterval _ (sound_rows meter (rows_of_meter facts meter) (sound meter)))))

-- Lemmas: a meter's rows of `intervals`, sorted by their starts, have the meter's energy by quarter
-- hours in the store's records, in the same order.

abbrev starts_before : Interval → Interval → Bool
starts_before i j = nat_lt (start_of i) (start_of j)

not_before : (n : ℕ) → nat_lt n n ≡ false
not_before n = le-ltb n n (omega arith)

still_before : (a b c : ℕ) → nat_lt a b ≡ true → b ≤ c → nat_lt a c ≡ true
still_before a b c lt le = let first : a < b = ltb-true a b lt in lt-ltb a c (omega (arith, first, le))

above_all : (meter : List ℕ) (share : Share) (shares : List Share) → Above share.start shares → AllByRecursion (λ j. starts_before (interval_of meter share) j ≡ true) (map (interval_of meter) shares)
above_all meter share [] h = tt
above_all meter share (x ∷ xs) h = (lt-ltb share.start x.start h.0, above_all meter share xs h.1)

rising_rows : (meter : List ℕ) (shares : List Share) → Rising shares → IsAscending (λ i j. starts_before i j ≡ true) (map (interval_of meter) shares)
rising_rows meter [] h = tt
rising_rows meter (x ∷ xs) h = (above_all meter x xs h.0, rising_rows meter xs h.1)

shares_back : (meter : List ℕ) (shares : List Share) → map (λ (i : Interval). i.share) (map (interval_of meter) shares) ≡ shares
shares_back meter [] = refl
shares_back meter (x ∷ xs) = ap (λ l. x ∷ l) (shares_back meter xs)

module _ (kept : MetersAreKept) (facts : List Fact) (lawful : AreLawful facts) where
  rising_opening : (o : Opening) → IsRecorded facts o → Rising (rows_of_opening facts o)
  rising_opening o there = rising_of _ (kept facts o lawful there).rows.in_order

  rising_found : (meter : List ℕ) (found : Option Opening) → opening_of facts meter ≡ found → Rising (rows_of_installed facts found)
  rising_found meter None is = tt
  rising_found meter (Some o) is = rising_opening o (found_recorded (λ (x : Opening). same x.meter meter) (openings_in facts) o is)

  pub of_meter : (meter : List ℕ) (rows : List Interval) (all : List Share) → AreEach facts rows → AreSharesOfMeter meter rows all → all ≡ rows_of_meter facts meter
  of_meter meter rows all each h =
      let wanted = map (interval_of meter) (rows_of_meter facts meter) in
      let here = one_order starts_before (FirstFirst start_of) (λ i. not_before (start_of i)) (λ i j k lt le. still_before (start_of i) (start_of j) (start_of k) lt le) wanted h.0
      (rising_rows meter (rows_of_meter facts meter) (rising_found meter (opening_of facts meter) refl))
      (IsPermutation-trans _ _ _ (IsPermutation-sym _ _ (each meter)) h.1.all) h.1.order in
      h.2 ∙ ap (map (λ (i : Interval). i.share)) here ∙ shares_back meter (rows_of_meter facts meter)

  pub of_meter_between : RegistersAreInTurn → (meter : List ℕ) (from till low high : ℕ) → low ≡ min from (latest_moment + 1) → high ≡ min till (latest_moment + 1) → (rows : List Interval) (all : List Share)
      → AreEach facts rows → AreSharesOfMeterBetween meter low high rows all → all ≡ rows_within (Between from till) (rows_of_meter facts meter)
  of_meter_between turn meter from till low high low_is high_is rows all each h =
      let shares = rows_of_meter facts meter in
      let own = map (interval_of meter) shares in
      let asked : Interval → Bool = is_between low high in
      let same_rows : IsPermutation (filter (λ i. is_of meter i && asked i) rows) (filter asked own) =
      subst (λ l. IsPermutation l (filter asked own)) (sym (one_by_one (is_of meter) asked rows)) (IsPermutation-filter asked _ _ (each meter)) in
      let here = one_order starts_before (FirstFirst start_of) (λ i. not_before (start_of i)) (λ i j k lt le. still_before (start_of i) (start_of j) (start_of k) lt le) (filter asked own) h.0
      (ascending-filter (λ i j. starts_before i j ≡ true) asked own (rising_rows meter shares (rising_found meter (opening_of facts meter) refl)))
      (IsPermutation-trans _ _ _ (IsPermutation-sym _ _ same_rows) h.1.all) h.1.order in
      h.2 ∙ ap (map (λ (i : Interval). i.share)) (here ∙ filter-map asked (interval_of meter) shares) ∙ shares_back meter _
      ∙ bounded_rows (λ (share : Share). share.start) from till low high low_is high_is shares (meter_in_time turn facts lawful meter)

  -- Lemmas that the rows of `intervals` for an accounting register (a named energy counter) are
  -- those of the register's meters.

  module _ (register : List ℕ) (rows : List Interval) where
    abbrev Pair : Type 0
    Pair = Installed × Interval

    abbrev at_place : (n : ℕ) → Opening → Interval → Pair
    at_place n o i = (installed_row facts n o, i)

    abbrev own : (n : ℕ) → Opening → List Pair
    own n o = map (at_place n o) (map (interval_of o.meter) (rows_of_opening facts o))

    abbrev here : Opening → Bool
    here o = same o.register register

    -- The rows of `intervals` for each meter of an accounting register (a named energy counter), in
    -- the order in which the meters were installed.
    abbrev wanted : List Opening → List Pair
    wanted [] = []
    wanted (o ∷ os) = wanted os ++ cond (here o) (own (length os + 1) o) []

    with_true : (a : Bool) → (a && true) ≡ a
    with_true true = refl
    with_true false = refl

    with_false : (a : Bool) → (a && false) ≡ false
    with_false true = refl
    with_false false = refl

    -- If a meter is joined with the rows of `intervals` for its own accounting register (a named
    -- energy counter), the result is the meter's own rows. For any other register, the result is
    -- empty.
    mine : (b : Bool) (n : ℕ) (o : Opening) → here o ≡ b → IsPermutation (filter (is_of o.meter) rows) (map (interval_of o.meter) (rows_of_opening facts o))
        → IsPermutation (filter (lies_at register) (map (at_place n o) rows)) (cond b (own n o) [])
    mine true n o is each =
        let same_tests : filter (λ i. lies_at register (at_place n o i)) rows ≡ filter (is_of o.meter) rows =
        filter_same _ _ (λ i. ap (λ b. bytes_eq i.meter o.meter && b) is ∙ with_true (bytes_eq i.meter o.meter)) rows in
        let left : filter (lies_at register) (map (at_place n o) rows) ≡ map (at_place n o) (filter (is_of o.meter) rows) =
        filter-map (lies_at register) (at_place n o) rows ∙ ap (map (at_place n o)) same_tests in
        subst (λ l. IsPermutation l (own n o)) (sym left) (IsPermutation-map (at_place n o) _ _ each)
    mine false n o is each =
        let none : filter (λ i. lies_at register (at_place n o i)) rows ≡ [] =
        filter_none _ rows (all_of _ (λ (i : Interval). ap (λ b. bytes_eq i.meter o.meter && b) is ∙ with_false (bytes_eq i.meter o.meter)) rows) in
        IsPermutation-same _ _ (filter-map (lies_at register) (at_place n o) rows ∙ ap (map (at_place n o)) none)

    abbrev HasOwn : Opening → Type 0
    HasOwn o = IsPermutation (filter (is_of o.meter) rows) (map (interval_of o.meter) (rows_of_opening facts o))

    all_lie : (os : List Opening) → AllByRecursion HasOwn os → IsPermutation (filter (lies_at register) (pairs (placed (installed_row facts) os) rows)) (wanted os)
    all_lie [] h = IsPermutation-refl []
    all_lie (o ∷ os) h =
        let n = length os + 1 in
        let split = filter-append (lies_at register) (map (at_place n o) rows) (pairs (placed (installed_row facts) os) rows) in
        subst (λ l. IsPermutation l (wanted (o ∷ os))) (sym split)
        (IsPermutation-trans _ _ _ (IsPermutation-append _ _ _ _ (mine (here o) n o refl h.0) (all_lie os h.1)) (IsPermutation-append_comm (cond (here o) (own n o) []) (wanted os)))

    -- Lemmas: rows of `intervals` that are ordered by the index of their meter, then by the start
    -- of the quarter hour, have only one order.

    abbrev comes_before : Pair → Pair → Bool
    comes_before p q = nat_lt (installed_place p.0) (installed_place q.0) || ((installed_place p.0 == installed_place q.0) && starts_before p.1 q.1)

    pair_itself : (p : Pair) → comes_before p p ≡ false
    pair_itself p = ap₂ ◌||◌ (not_before (installed_place p.0)) (ap (λ b. (installed_place p.0 == installed_place p.0) && b) (not_before (start_of p.1)) ∙ with_false (installed_place p.0 == installed_place p.0))

    less_by : (lt eq s : Bool) (a b : ℕ) → nat_lt a b ≡ lt → (a == b) ≡ eq → (lt || (eq && s)) ≡ true → (a < b) ⊎ ((a ≡ b) × (s ≡ true))
    less_by true eq s a b less same_place h = inl (ltb-true a b less)
    less_by false true s a b less same_place h = inr (eqb-true a b same_place, h)
    less_by false false s a b less same_place h = absurd (let f = h in cc)

    less_or : (a b : ℕ) (s : Bool) → (nat_lt a b || ((a == b) && s)) ≡ true → (a < b) ⊎ ((a ≡ b) × (s ≡ true))
    less_or a b s h = less_by (nat_lt a b) (a == b) s a b refl refl h

    by_place : (a b : ℕ) (s : Bool) → a < b → (nat_lt a b || ((a == b) && s)) ≡ true
    by_place a b s lt = let is : nat_lt a b ≡ true = lt-ltb a b lt in ap (λ c. c || ((a == b) && s)) is

    or_true : (b : Bool) → (b || true) ≡ true
    or_true true = refl
    or_true false = refl

    by_start : (a b : ℕ) (s : Bool) → a ≡ b → s ≡ true → (nat_lt a b || ((a == b) && s)) ≡ true
    by_start a b s same_place is =
        let eq : (a == b) ≡ true = eq-eqb a b same_place in
        ap₂ (λ c d. nat_lt a b || (c && d)) eq is ∙ or_true (nat_lt a b)

    -- The order of rows by meter and start is transitive: if one row precedes a second, and the
    -- second a third, the first precedes the third.
    pair_still : (p q r : Pair) → comes_before p q ≡ true → ComesAfter q r → comes_before p r ≡ true
    pair_still p q r lt le = elim (less_or (installed_place p.0) (installed_place q.0) (starts_before p.1 q.1) lt) [
      | inl low ↦ elim le [
        | inl more ↦ by_place (installed_place p.0) (installed_place r.0) (starts_before p.1 r.1) (omega (arith, low, more))
        | inr level ↦ by_place (installed_place p.0) (installed_place r.0) (starts_before p.1 r.1) (let e = level.0 in omega (arith, low, e))
      ]
      | inr level ↦ elim le [
        | inl more ↦ by_place (installed_place p.0) (installed_place r.0) (starts_before p.1 r.1) (let e = level.0 in omega (arith, more, e))
        | inr next ↦ by_start (installed_place p.0) (installed_place r.0) (starts_before p.1 r.1) (level.0 ∙ next.0) (still_before (start_of p.1) (start_of q.1) (start_of r.1) level.1 next.1)
      ]
    ]

    places : (n m : ℕ) (o : Opening) → n ≤ m → AllByRecursion (λ (p : Pair). installed_place p.0 ≤ m) (own n o)
    places n m o le = all_map (λ (p : Pair). installed_place p.0 ≤ m) (at_place n o) _ (all_of (λ (i : Interval). n ≤ m) (λ i. le) _)

    if_here : (b : Bool) (n m : ℕ) (o : Opening) → n ≤ m → AllByRecursion (λ (p : Pair). installed_place p.0 ≤ m) (cond b (own n o) [])
    if_here true n m o le = places n m o le
    if_here false n m o le = tt

    up_to : (m : ℕ) (os : List Opening) → length os ≤ m → AllByRecursion (λ (p : Pair). installed_place p.0 ≤ m) (wanted os)
    up_to m [] le = tt
    up_to m (o ∷ os) le = all-append (λ (p : Pair). installed_place p.0 ≤ m) (wanted os) _ (up_to m os (omega (arith, le))) (if_here (here o) (length os + 1) m o (omega (arith, le)))

    rising_own : (n : ℕ) (o : Opening) → Rising (rows_of_opening facts o) → IsAscending (λ (p q : Pair). comes_before p q ≡ true) (own n o)
    rising_own n o rising =
        ascending-map (λ (p q : Pair). comes_before p q ≡ true) (at_place n o) _
        (Rattle.sqlite_keyed.proofs.ListLemmas.ascending_weaker (λ i j. starts_before i j ≡ true) (λ i j. comes_before (at_place n o i) (at_place n o j) ≡ true) (λ i j is. by_start n n (starts_before i j) refl is) _
        (rising_rows o.meter (rows_of_opening facts o) rising))

    rising_here : (b : Bool) (n : ℕ) (o : Opening) → Rising (rows_of_opening facts o) → IsAscending (λ (p q : Pair). comes_before p q ≡ true) (cond b (own n o) [])
    rising_here true n o rising = rising_own n o rising
    rising_here false n o rising = tt

    all_after : (b : Bool) (p : Pair) (n : ℕ) (o : Opening) → installed_place p.0 < n → AllByRecursion (λ (q : Pair). comes_before p q ≡ true) (cond b (own n o) [])
    all_after true p n o lt = all_map (λ (q : Pair). comes_before p q ≡ true) (at_place n o) _ (all_of _ (λ (i : Interval). by_place (installed_place p.0) n (starts_before p.1 i) lt) _)
    all_after false p n o lt = tt

    in_turn : (os : List Opening) → AllByRecursion (λ (o : Opening). Rising (rows_of_opening facts o)) os → IsAscending (λ (p q : Pair). comes_before p q ≡ true) (wanted os)
    in_turn [] h = tt
    in_turn (o ∷ os) h =
        let n = length os + 1 in
        ascending-append (λ (p q : Pair). comes_before p q ≡ true) (wanted os) _ (in_turn os h.1) (rising_here (here o) n o h.0)
        (all_weaker (λ (p : Pair). installed_place p.0 ≤ length os) _ (λ p le. all_after (here o) p n o (omega (arith, le))) (wanted os) (up_to (length os) os (omega arith)))

    -- Lemmas that the energies in the rows of an accounting register (a named energy counter) are
    -- the energies of the register's meters, in order.

    abbrev share_of : Pair → Share
    share_of p = p.1.share

    shares_own : (n : ℕ) (o : Opening) → map share_of (own n o) ≡ rows_of_opening facts o
    shares_own n o = map-map share_of (at_place n o) _ ∙ shares_back o.meter (rows_of_opening facts o)

    one_more : (b : Bool) (n : ℕ) (o : Opening) (os : List Opening)
        → flat_map (rows_of_opening facts) (reverse os) ++ map share_of (cond b (own n o) []) ≡ flat_map (rows_of_opening facts) (reverse (cond b (o ∷ os) os))
    one_more true n o os =
        ap (λ l. flat_map (rows_of_opening facts) (reverse os) ++ l) (shares_own n o ∙ sym (append-nil (rows_of_opening facts o)))
        ∙ sym (ap (flat_map (rows_of_opening facts)) (reverse_cons o os) ∙ flat_map-append (rows_of_opening facts) (reverse os) (o ∷ []))
    one_more false n o os = append-nil _

    shares_are : (os : List Opening) → map share_of (wanted os) ≡ flat_map (rows_of_opening facts) (reverse (filter here os))
    shares_are [] = refl
    shares_are (o ∷ os) =
        map-append share_of (wanted os) (cond (here o) (own (length os + 1) o) [])
        ∙ ap (λ l. l ++ map share_of (cond (here o) (own (length os + 1) o) [])) (shares_are os)
        ∙ one_more (here o) (length os + 1) o (filter here os)

    pub at_register : (all : List Share) → AreEach facts rows → AreSharesAt register (record { installed = placed (installed_row facts) (openings_in facts); rows = rows }) all → all ≡ rows_of_register facts register
    at_register all each h =
        let os = openings_in facts in
        let lone = alone facts lawful in
        let own_rows : AllByRecursion HasOwn os = all_weaker (λ (o : Opening). opening_of facts o.meter ≡ Some o) HasOwn
        (λ o is. subst (λ (l : List Share). IsPermutation (filter (is_of o.meter) rows) (map (interval_of o.meter) l)) (ap (rows_of_installed facts) is) (each o.meter)) os lone in
        let rise : AllByRecursion (λ (o : Opening). Rising (rows_of_opening facts o)) os = all_weaker (λ (o : Opening). opening_of facts o.meter ≡ Some o) _
        (λ o is. rising_opening o (found_recorded (λ (x : Opening). same x.meter o.meter) os o is)) os lone in
        let found = one_order comes_before ComesAfter pair_itself pair_still (wanted os) h.0 (in_turn os rise)
        (IsPermutation-trans _ _ _ (IsPermutation-sym _ _ (all_lie os own_rows)) h.1.all) h.1.order in
        h.2 ∙ ap (map share_of) found ∙ shares_are os

    pub at_register_between : RegistersAreInTurn → (from till low high : ℕ) → low ≡ min from (latest_moment + 1) → high ≡ min till (latest_moment + 1) → (all : List Share) → AreEach facts rows
        → AreSharesAtBetween register low high (record { installed = placed (installed_row facts) (openings_in facts); rows = rows }) all → all ≡ rows_within (Between from till) (rows_of_register facts register)
    at_register_between turn from till low high low_is high_is all each h =
        let os = openings_in facts in
        let lone = alone facts lawful in
        let asked : Pair → Bool = λ p. is_between low high p.1 in
        let kept_shares : Share → Bool = λ share. nat_le low share.start && nat_lt share.start high in
        let own_rows : AllByRecursion HasOwn os = all_weaker (λ (o : Opening). opening_of facts o.meter ≡ Some o) HasOwn
        (λ o is. subst (λ (l : List Share). IsPermutation (filter (is_of o.meter) rows) (map (interval_of o.meter) l)) (ap (rows_of_installed facts) is) (each o.meter)) os lone in
        let rise : AllByRecursion (λ (o : Opening). Rising (rows_of_opening facts o)) os = all_weaker (λ (o : Opening). opening_of facts o.meter ≡ Some o) _
        (λ o is. rising_opening o (found_recorded (λ (x : Opening). same x.meter o.meter) os o is)) os lone in
        let same_pairs : IsPermutation (filter (λ p. lies_at register p && asked p) (pairs (placed (installed_row facts) os) rows)) (filter asked (wanted os)) =
        subst (λ l. IsPermutation l (filter asked (wanted os))) (sym (one_by_one (lies_at register) asked (pairs (placed (installed_row facts) os) rows)))
        (IsPermutation-filter asked _ _ (all_lie os own_rows)) in
        let found = one_order comes_before ComesAfter pair_itself pair_still (filter asked (wanted os)) h.0
        (ascending-filter (λ (p q : Pair). comes_before p q ≡ true) asked (wanted os) (in_turn os rise))
        (IsPermutation-trans _ _ _ (IsPermutation-sym _ _ same_pairs) h.1.all) h.1.order in
        h.2 ∙ ap (map share_of) found ∙ sym (filter-map kept_shares share_of (wanted os)) ∙ ap (filter kept_shares) (shares_are os)
        ∙ bounded_rows (λ (share : Share). share.start) from till low high low_is high_is (rows_of_register facts register) (register_in_time turn facts lawful register)
