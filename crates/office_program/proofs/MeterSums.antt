-- Proofs that, in a range of days, the energies of an accounting register's meters add up to the
-- energies of the days in the register's report.
use Rattle.std.proofs.Common.{◌≡◌, ℕ, ℤ, zero, suc, ◌+◌, ◌-◌, ◌<◌, ◌≤◌, ◌^◌, inl, inr, Bool, true, false, cond, Some, None, List, [], ◌∷◌, ◌++◌, map, length, get_or, refl, sym, ◌∙◌, ap, subst, arith}
use Rattle.std.specs.Prelude.{◌<ℤ◌, ◌&&◌, All, Contains, filter, nat_le, sum_by}
use Rattle.jiff_core.proofs.SignedLemmas.{signed_arith}
use Rattle.std.specs.List.{flat_map}
use Rattle.std.specs.Ordering.{int_eq}
use Rattle.std.proofs.Math.Nat.{min-eq_left}
use Rattle.std.proofs.lemmas.Bool.{cases_Bool, cond-true, cond-false}
use Rattle.std.proofs.lemmas.Bool.Decides.{Decides-int_eq}
use Rattle.std.proofs.lemmas.List.Elements.{All-contains, All-head, All-map, All-tail, Contains-append_cases, Contains-push_cases, filter-append}
use Rattle.std.proofs.lemmas.List.Sums.{sum_by-append, sum_by-cons}
use Rattle.interval_core.specs.Account.{energy_of}
use Rattle.interval_core.specs.Days.{AreAccounts, AreInOrder, DayAccount, account_of, account_on, days_of, rows_on}
use Rattle.interval_core.specs.Ranges.{begins_by, begins_by_number, days_in, ends_after, ends_after_number, has_day, has_moment, is_in}
use Rattle.interval_core.specs.Zone.{day_at}
use Rattle.interval_core.specs.declared.day_range.DayRange.{DayRange}
use Rattle.interval_core.specs.declared.limits.TheConstants.{LAST_MOMENT}
use Rattle.interval_core.specs.declared.shares.Share.{Share}
use Rattle.interval_core.specs.declared.totals.DayTotal.{DayTotal}
use Rattle.interval_core.specs.declared.zone.Zone.{Zone}
use Rattle.energy_report.specs.Laws.{energy_of_days}
use Rattle.energy_report.specs.Statements.{energy_within}

module _ (zone : Zone) (range : DayRange) where
  abbrev asked : ℤ → Bool
  asked day = has_day range day

  abbrev day_of : Share → ℤ
  day_of row = day_at zone row.start

  -- The energy of the intervals of a day, in mWh, if the day is in the given range of days.
  -- Otherwise 0.
  abbrev on_day : List Share → DayAccount → ℕ
  on_day rows account = cond (asked account.day) (energy_of (rows_on zone rows account.day)) 0

  -- The energy in mWh that an interval adds to a day, if the day is in the given range of days.
  abbrev adds : Share → DayAccount → ℕ
  adds row account = cond (asked account.day) (cond (int_eq (day_of row) account.day) row.mwh 0) 0

  -- Lemmas on the energy of a day in mWh, after one more quarter-hour interval was added to a list
  -- of intervals.

  one_day : (p b : Bool) (row : Share) (rows : List Share)
      → cond p (energy_of (cond b (row ∷ rows) rows)) 0 ≡ cond p (cond b row.mwh 0) 0 + cond p (energy_of rows) 0
  one_day true true row rows = sum_by-cons (λ (r : Share). r.mwh) row rows
  one_day true false row rows = omega arith
  one_day false b row rows = refl

  one_row : (row : Share) (rows : List Share) (accounts : List DayAccount)
      → sum_by (on_day (row ∷ rows)) accounts ≡ sum_by (adds row) accounts + sum_by (on_day rows) accounts
  one_row row rows [] = refl
  one_row row rows (account ∷ accounts) =
      let here = one_day (asked account.day) (int_eq (day_of row) account.day) row (rows_on zone rows account.day) in
      let rest = one_row row rows accounts in
      omega (arith, here, rest, sum_by-cons (on_day (row ∷ rows)) account accounts, sum_by-cons (adds row) account accounts, sum_by-cons (on_day rows) account accounts)

  -- Lemmas: an interval adds energy only to its day.

  nothing : (p : Bool) → ◌≡◌ {A = ℕ} (cond p 0 0) 0
  nothing true = refl
  nothing false = refl

  apart : (row : Share) (account : DayAccount) → int_eq (day_of row) account.day ≡ false → adds row account ≡ 0
  apart row account is = ap (λ n. cond (asked account.day) n 0) (cond-false _ _ _ is) ∙ nothing (asked account.day)

  differs : (x y : ℤ) → y <ℤ x → int_eq x y ≡ false
  differs x y less = elim (cases_Bool (int_eq x y)) [
    | inl is ↦ absurd (let same : x ≡ y = (Decides-int_eq x y).0 is in omega (arith, signed_arith, less, same))
    | inr isnt ↦ isnt
  ]

  differs_too : (x y : ℤ) → x <ℤ y → int_eq x y ≡ false
  differs_too x y less = elim (cases_Bool (int_eq x y)) [
    | inl is ↦ absurd (let same : x ≡ y = (Decides-int_eq x y).0 is in omega (arith, signed_arith, less, same))
    | inr isnt ↦ isnt
  ]

  none_later : (row : Share) (accounts : List DayAccount) → All (λ later. day_of row <ℤ later.day) accounts → sum_by (adds row) accounts ≡ 0
  none_later row [] later = refl
  none_later row (account ∷ accounts) later =
      let here : adds row account ≡ 0 = apart row account (differs_too (day_of row) account.day (All-head (λ (a : DayAccount). day_of row <ℤ a.day) account accounts later)) in
      let rest = none_later row accounts (All-tail (λ (a : DayAccount). day_of row <ℤ a.day) account accounts later) in
      omega (arith, here, rest, sum_by-cons (adds row) account accounts)

  on_its_day : (row : Share) (account : DayAccount) → account.day ≡ day_of row → adds row account ≡ cond (asked (day_of row)) row.mwh 0
  on_its_day row account same =
      let test : int_eq (day_of row) account.day ≡ true = (Decides-int_eq (day_of row) account.day).1 (sym same) in
      ap (λ n. cond (asked account.day) n 0) (cond-true _ _ _ test) ∙ ap (λ day. cond (asked day) row.mwh 0) same

  counts_once : (row : Share) (accounts : List DayAccount) → AreInOrder accounts → Contains (days_of accounts) (day_of row)
      → sum_by (adds row) accounts ≡ cond (asked (day_of row)) row.mwh 0
  counts_once row [] order has = absurd (omega (arith, has.1))
  counts_once row (account ∷ accounts) order has =
      elim (Contains-append_cases (account.day ∷ []) (days_of accounts) (day_of row) has) [
        | inl here ↦ elim (Contains-push_cases [] account.day (day_of row) here) [
          | inl none ↦ absurd (omega (arith, none.1))
          | inr same ↦
              let later : All (λ (a : DayAccount). day_of row <ℤ a.day) accounts = subst (λ day. All (λ (a : DayAccount). day <ℤ a.day) accounts) same order.0 in
              let rest = none_later row accounts later in
              omega (arith, on_its_day row account same, rest, sum_by-cons (adds row) account accounts)
        ]
        | inr there ↦
            let before : account.day <ℤ day_of row = All-contains (λ day. account.day <ℤ day) (days_of accounts) (day_of row)
            (All-map (λ day. account.day <ℤ day) (λ (a : DayAccount). a.day) accounts order.0) there in
            let here : adds row account ≡ 0 = apart row account (differs (day_of row) account.day before) in
            let rest = counts_once row accounts order.1 there in
            omega (arith, here, rest, sum_by-cons (adds row) account accounts)
      ]

  -- Lemmas: the energy of all intervals in a range of days equals the sum of the energies of the
  -- range's days.

  abbrev in_range : Share → Bool
  in_range row = asked (day_of row)

  kept : (b : Bool) (row : Share) (rows : List Share) → energy_of (cond b (row ∷ rows) rows) ≡ cond b row.mwh 0 + energy_of rows
  kept true row rows = sum_by-cons (λ (r : Share). r.mwh) row rows
  kept false row rows = omega arith

  no_rows : (accounts : List DayAccount) → sum_by (on_day []) accounts ≡ 0
  no_rows [] = refl
  no_rows (account ∷ accounts) = omega (arith, nothing (asked account.day), no_rows accounts, sum_by-cons (on_day []) account accounts)

  by_days : (accounts : List DayAccount) → AreInOrder accounts → (rows : List Share) → All (λ row. Contains (days_of accounts) (day_of row)) rows
      → sum_by (on_day rows) accounts ≡ energy_of (filter in_range rows)
  by_days accounts order [] has = no_rows accounts
  by_days accounts order (row ∷ rows) has =
      let P : Share → Type 0 = λ r. Contains (days_of accounts) (day_of r) in
      let here = counts_once row accounts order (All-head P row rows has) in
      let rest = by_days accounts order rows (All-tail P row rows has) in
      omega (arith, here, rest, one_row row rows accounts, kept (in_range row) row (filter in_range rows))

  -- If a list of intervals is not empty, then adding one interval or none leaves it not empty.
  longer : (b : Bool) (row : Share) (rows : List Share) → 0 < length rows → 0 < length (cond b (row ∷ rows) rows)
  longer true row rows some = omega arith
  longer false row rows some = some

  some_on : (rows : List Share) (k : ℕ) (d : Share) → k < length rows → 0 < length (rows_on zone rows (day_of (get_or rows k d)))
  some_on [] k d less = absurd (omega (arith, less))
  some_on (row ∷ rows) zero d less =
      let test : int_eq (day_of row) (day_of row) ≡ true = (Decides-int_eq (day_of row) (day_of row)).1 refl in
      subst (λ (l : List Share). 0 < length l) (sym (cond-true (int_eq (day_of row) (day_of row)) (row ∷ rows_on zone rows (day_of row)) (rows_on zone rows (day_of row)) test)) (omega arith)
  some_on (row ∷ rows) (suc k) d less =
      let day = day_of (get_or rows k d) in
      longer (int_eq (day_of row) day) row (rows_on zone rows day) (some_on rows k d (omega (arith, less)))

  -- Lemmas: those days of an accounting register's report that are in a range of days have together
  -- the energy of the interval rows that start on these days.

  is_in_number : (total : DayTotal) → is_in range total.day ≡ has_day range (account_of total).day
  is_in_number total =
      elim range.from as (λ from. (begins_by from total.day && ends_after range.till total.day)
      ≡ (begins_by_number from (account_of total).day && ends_after_number range.till (account_of total).day)) [
        | None ↦ elim range.till as (λ till. ends_after till total.day ≡ ends_after_number till (account_of total).day) [
          | None ↦ refl
          | Some last ↦ refl
        ]
        | Some first ↦ elim range.till as (λ till. (begins_by (Some first) total.day && ends_after till total.day)
            ≡ (begins_by_number (Some first) (account_of total).day && ends_after_number till (account_of total).day)) [
              | None ↦ refl
              | Some last ↦ refl
            ]
      ]

  one_total : (b : Bool) (total : DayTotal) (days : List DayTotal) → energy_of_days (cond b (total ∷ days) days) ≡ cond b total.mwh 0 + energy_of_days days
  one_total true total days = sum_by-cons (λ (t : DayTotal). t.mwh) total days
  one_total false total days = omega arith

  of_days : (rows : List Share) (days : List DayTotal) → All (λ account. account ≡ account_on zone rows account.day) (map account_of days)
      → energy_of_days (days_in range days) ≡ sum_by (on_day rows) (map account_of days)
  of_days rows [] each = refl
  of_days rows (total ∷ days) each =
      let P : DayAccount → Type 0 = λ a. a ≡ account_on zone rows a.day in
      let account = account_of total in
      let mwh : total.mwh ≡ energy_of (rows_on zone rows account.day) = ap (λ (a : DayAccount). a.mwh) (All-head P account (map account_of days) each) in
      let here : cond (is_in range total.day) total.mwh 0 ≡ on_day rows account =
      ap (λ b. cond b total.mwh 0) (is_in_number total) ∙ ap (λ n. cond (asked account.day) n 0) mwh in
      let rest = of_days rows days (All-tail P account (map account_of days) each) in
      omega (arith, here, rest, one_total (is_in range total.day) total (days_in range days), sum_by-cons (on_day rows) account (map account_of days))

  -- Lemmas: the energy of all meters of an accounting register (a named energy counter) in a range
  -- of days is the energy of all their intervals in this range.

  abbrev IsOfSomeDay : Share → Type 0
  IsOfSomeDay row = row.start ≤ LAST_MOMENT

  abbrev has : Share → Bool
  has row = has_moment zone range row.start

  abbrev all_of : List (List Share) → List Share
  all_of meters = flat_map (λ rows. rows) meters

  has_its_day : (row : Share) → IsOfSomeDay row → has row ≡ in_range row
  has_its_day row some = ap (λ b. b && in_range row) (let fits : nat_le row.start LAST_MOMENT ≡ true = grind (arith, some) in fits)

  same_filter : (p q : Share → Bool) (rows : List Share) → All (λ row. p row ≡ q row) rows → filter p rows ≡ filter q rows
  same_filter p q [] same = refl
  same_filter p q (row ∷ rows) same =
      let P : Share → Type 0 = λ r. p r ≡ q r in
      ap (λ b. cond b (row ∷ filter p rows) (filter p rows)) (All-head P row rows same)
      ∙ ap (λ l. cond (q row) (row ∷ l) l) (same_filter p q rows (All-tail P row rows same))

  abbrev most : ℕ
  most = 2 ^ 128 - 1

  of_meters : (meters : List (List Share)) → energy_of (filter has (all_of meters)) ≤ most
      → sum_by (energy_within zone range) meters ≡ energy_of (filter has (all_of meters))
  of_meters [] few = refl
  of_meters (rows ∷ meters) few =
      let mwh : Share → ℕ = λ row. row.mwh in
      let both : energy_of (filter has (rows ++ all_of meters)) ≡ energy_of (filter has rows) + energy_of (filter has (all_of meters)) =
      ap (sum_by mwh) (filter-append has rows (all_of meters)) ∙ sum_by-append mwh (filter has rows) (filter has (all_of meters)) in
      let here : energy_within zone range rows ≡ energy_of (filter has rows) =
      min-eq_left (let le : energy_of (filter has rows) ≤ most = omega (arith, both, few) in le) in
      let rest = of_meters meters (omega (arith, both, few)) in
      omega (arith, both, here, rest, sum_by-cons (energy_within zone range) rows meters)

  pub add_up : (meters : List (List Share)) (days : List DayTotal) → All IsOfSomeDay (all_of meters)
      → AreAccounts zone (all_of meters) (map account_of days) → energy_of_days (days_in range days) < 2 ^ 128
      → sum_by (energy_within zone range) meters ≡ energy_of_days (days_in range days)
  add_up meters days some are few =
      let rows = all_of meters in
      let accounts = map account_of days in
      let found : All (λ row. Contains (days_of accounts) (day_of row)) rows = λ k d less. (are.complete (day_of (get_or rows k d))).1 (some_on rows k d less) in
      let total : energy_of_days (days_in range days) ≡ energy_of (filter in_range rows) = of_days rows days are.each ∙ by_days accounts are.in_order rows found in
      let same : filter has rows ≡ filter in_range rows = same_filter has in_range rows (λ k d less. has_its_day (get_or rows k d) (some k d less)) in
      let moments : energy_of (filter has rows) ≡ energy_of (filter in_range rows) = ap energy_of same in
      of_meters meters (omega (arith, moments, total, few)) ∙ moments ∙ sym total
