-- Lemmas on the energy of quarter hours by calendar month: each day is added to its month, and no
-- month has more energy than all quarter hours.
use Rattle.std.proofs.Common.{◌≡◌, ℕ, ℤ, ◌+◌, ◌*◌, ◌-◌, ◌<◌, ◌≤◌, ◌^◌, Bool, true, false, cond, List, [], ◌∷◌, ◌++◌, map, length, refl, sym, ◌∙◌, ap, subst, arith, inl, inr}
use Rattle.std.specs.Prelude.{◌<ℤ◌, All, min, sum_by}
use Rattle.std.specs.Ordering.{int_eq}
use Rattle.std.proofs.Math.Nat.{min-eq_left}
use Rattle.std.proofs.lemmas.Bool.{cases_Bool, cond-true, cond-false}
use Rattle.std.proofs.lemmas.Bool.Decides.{Decides-int_eq}
use Rattle.std.proofs.lemmas.List.Elements.{All-nil, All-cons, All-head, All-tail}
use Rattle.std.proofs.lemmas.List.Sums.{sum_by-cons}
use Rattle.jiff_core.proofs.SignedLemmas.{signed_arith}
use Rattle.energy_core.specs.declared.limits.TheConstants.{MAX_TOTAL}
use Rattle.interval_core.specs.Account.{energy_of}
use Rattle.interval_core.specs.Days.{AreAccounts, AreInOrder, DayAccount, account_of, account_on, rows_on}
use Rattle.interval_core.specs.Zone.{day_at}
use Rattle.interval_core.specs.declared.shares.Share.{Share}
use Rattle.interval_core.specs.declared.totals.DayTotal.{DayTotal}
use Rattle.interval_core.specs.declared.zone.Zone.{Zone}
use Rattle.energy_report.specs.declared.form.Period.TheVariants as period
use Rattle.energy_report.specs.declared.row.Row.{Row}
use Rattle.energy_report.specs.Laws.{energy_of_days, energy_of_rows}
use Rattle.energy_report.specs.Periods.{is_same}
use Rattle.energy_report.specs.Rows.{joined, row_of, rows_by, shown}
use Rattle.energy_report.proofs.SnocLemmas.{after, rows-push, shown-joined}
use Rattle.energy_report.proofs.SumLemmas.{sums}
use Rattle.table_seals.specs.Months.{AreMonths, month_of}
use Rattle.table_seals.specs.Sealed.{SealedMonth}

-- Lemmas: one more day is added to the last row of a monthly report, or begins a new row.

never_empty : (done : List Row) (last : Row) → [] ≡ done ++ last ∷ [] → ⊥
never_empty [] last is = absurd (cc)
never_empty (row ∷ done) last is = absurd (cc)

first_row : (a b : Row) (rows others : List Row) → a ∷ rows ≡ b ∷ others → a ≡ b
first_row a b rows others h = cc

later_rows : (a b : Row) (rows others : List Row) → a ∷ rows ≡ b ∷ others → rows ≡ others
later_rows a b rows others h = cc

same_month : (x last : Row) (t : DayTotal) (b : Bool) → shown x ≡ last → is_same period.Month last.first t.day ≡ b
    → is_same period.Month x.first t.day ≡ b
same_month x last t b is same = ap (λ (r : Row). is_same period.Month r.first t.day) is ∙ same

joined_row : (x last : Row) (t : DayTotal) → shown x ≡ last → shown (joined x (row_of t)) ≡ shown (joined last (row_of t))
joined_row x last t is = sym (shown-joined x t) ∙ ap (λ (r : Row). shown (joined r (row_of t))) is

pub merged : (xs done : List Row) (last : Row) (t : DayTotal) → map shown xs ≡ done ++ last ∷ []
    → is_same period.Month last.first t.day ≡ true
    → map shown (after period.Month xs t) ≡ done ++ shown (joined last (row_of t)) ∷ []
merged [] done last t is same = absurd (never_empty done last is)
merged (x ∷ []) [] last t is same =
    let here : shown x ≡ last = first_row (shown x) last [] [] is in
    ap (λ b. map shown (cond b (joined x (row_of t) ∷ []) (x ∷ row_of t ∷ []))) (same_month x last t true here same)
    ∙ ap (λ (r : Row). r ∷ []) (joined_row x last t here)
merged (x ∷ []) (d ∷ done) last t is same = absurd (never_empty done last (later_rows (shown x) d [] (done ++ last ∷ []) is))
merged (x ∷ y ∷ xs) [] last t is same =
    let none : shown y ∷ map shown xs ≡ [] = later_rows (shown x) last (shown y ∷ map shown xs) [] is in absurd (cc)
merged (x ∷ y ∷ xs) (d ∷ done) last t is same =
    let here : shown x ≡ d = first_row (shown x) d (map shown (y ∷ xs)) (done ++ last ∷ []) is in
    let rest : map shown (y ∷ xs) ≡ done ++ last ∷ [] = later_rows (shown x) d (map shown (y ∷ xs)) (done ++ last ∷ []) is in
    ap (λ (r : Row). r ∷ map shown (after period.Month (y ∷ xs) t)) here
    ∙ ap (λ (rows : List Row). d ∷ rows) (merged (y ∷ xs) done last t rest same)

pub begun : (xs done : List Row) (last : Row) (t : DayTotal) → map shown xs ≡ done ++ last ∷ []
    → is_same period.Month last.first t.day ≡ false
    → map shown (after period.Month xs t) ≡ (done ++ last ∷ []) ++ shown (row_of t) ∷ []
begun [] done last t is other = absurd (never_empty done last is)
begun (x ∷ []) [] last t is other =
    let here : shown x ≡ last = first_row (shown x) last [] [] is in
    ap (λ b. map shown (cond b (joined x (row_of t) ∷ []) (x ∷ row_of t ∷ []))) (same_month x last t false here other)
    ∙ ap (λ (r : Row). r ∷ shown (row_of t) ∷ []) here
begun (x ∷ []) (d ∷ done) last t is other = absurd (never_empty done last (later_rows (shown x) d [] (done ++ last ∷ []) is))
begun (x ∷ y ∷ xs) [] last t is other =
    let none : shown y ∷ map shown xs ≡ [] = later_rows (shown x) last (shown y ∷ map shown xs) [] is in absurd (cc)
begun (x ∷ y ∷ xs) (d ∷ done) last t is other =
    let here : shown x ≡ d = first_row (shown x) d (map shown (y ∷ xs)) (done ++ last ∷ []) is in
    let rest : map shown (y ∷ xs) ≡ done ++ last ∷ [] = later_rows (shown x) d (map shown (y ∷ xs)) (done ++ last ∷ []) is in
    ap (λ (r : Row). r ∷ map shown (after period.Month (y ∷ xs) t)) here
    ∙ ap (λ (rows : List Row). d ∷ rows) (begun (y ∷ xs) done last t rest other)

pub opened : (xs : List Row) (t : DayTotal) → map shown xs ≡ [] → map shown (after period.Month xs t) ≡ shown (row_of t) ∷ []
opened [] t is = refl
opened (x ∷ xs) t is = absurd (cc)

-- Lemmas: the energies of the days add up to at most the energy of all quarter hours, because each
-- quarter hour is in one day.

module _ (zone : Zone) where
  abbrev day_of : Share → ℤ
  day_of row = day_at zone row.start

  abbrev on_day : List Share → DayAccount → ℕ
  on_day rows account = energy_of (rows_on zone rows account.day)

  -- The energy in mWh that a quarter hour adds to a day.
  abbrev adds : Share → DayAccount → ℕ
  adds row account = cond (int_eq (day_of row) account.day) row.mwh 0

  one_day : (b : Bool) (row : Share) (rows : List Share) → energy_of (cond b (row ∷ rows) rows) ≡ cond b row.mwh 0 + energy_of rows
  one_day true row rows = sum_by-cons (λ (r : Share). r.mwh) row rows
  one_day false row rows = omega arith

  one_row : (row : Share) (rows : List Share) (accounts : List DayAccount)
      → sum_by (on_day (row ∷ rows)) accounts ≡ sum_by (adds row) accounts + sum_by (on_day rows) accounts
  one_row row rows [] = refl
  one_row row rows (account ∷ accounts) =
      let here = one_day (int_eq (day_of row) account.day) row (rows_on zone rows account.day) in
      let rest = one_row row rows accounts in
      omega (arith, here, rest, sum_by-cons (on_day (row ∷ rows)) account accounts, sum_by-cons (adds row) account accounts, sum_by-cons (on_day rows) account accounts)

  none_later : (row : Share) (accounts : List DayAccount) → All (λ later. day_of row <ℤ later.day) accounts → sum_by (adds row) accounts ≡ 0
  none_later row [] later = refl
  none_later row (account ∷ accounts) later =
      let P : DayAccount → Type 0 = λ (a : DayAccount). day_of row <ℤ a.day in
      let less : day_of row <ℤ account.day = All-head P account accounts later in
      let rest = none_later row accounts (All-tail P account accounts later) in
      elim (cases_Bool (int_eq (day_of row) account.day)) [
        | inl is ↦ absurd (let same : day_of row ≡ account.day = (Decides-int_eq (day_of row) account.day).0 is in omega (arith, signed_arith, less, same))
        | inr isnt ↦
            let here : adds row account ≡ 0 = cond-false _ _ _ isnt in
            omega (arith, here, rest, sum_by-cons (adds row) account accounts)
      ]

  at_most_once : (row : Share) (accounts : List DayAccount) → AreInOrder accounts → sum_by (adds row) accounts ≤ row.mwh
  at_most_once row [] order = omega arith
  at_most_once row (account ∷ accounts) order =
      elim (cases_Bool (int_eq (day_of row) account.day)) [
        | inl is ↦
            let same : account.day ≡ day_of row = sym ((Decides-int_eq (day_of row) account.day).0 is) in
            let later : All (λ (a : DayAccount). day_of row <ℤ a.day) accounts = subst (λ day. All (λ (a : DayAccount). day <ℤ a.day) accounts) same order.0 in
            let here : adds row account ≡ row.mwh = cond-true _ _ _ is in
            let rest = none_later row accounts later in
            omega (arith, here, rest, sum_by-cons (adds row) account accounts)
        | inr isnt ↦
            let here : adds row account ≡ 0 = cond-false _ _ _ isnt in
            let rest = at_most_once row accounts order.1 in
            omega (arith, here, rest, sum_by-cons (adds row) account accounts)
      ]

  no_rows : (accounts : List DayAccount) → sum_by (on_day []) accounts ≡ 0
  no_rows [] = refl
  no_rows (account ∷ accounts) = omega (arith, no_rows accounts, sum_by-cons (on_day []) account accounts)

  by_days : (accounts : List DayAccount) → AreInOrder accounts → (rows : List Share) → sum_by (on_day rows) accounts ≤ energy_of rows
  by_days accounts order [] = omega (arith, no_rows accounts)
  by_days accounts order (row ∷ rows) =
      omega (arith, at_most_once row accounts order, by_days accounts order rows, one_row row rows accounts, sum_by-cons (λ (r : Share). r.mwh) row rows)

  in_accounts : (rows : List Share) (days : List DayTotal) → All (λ (a : DayAccount). a ≡ account_on zone rows a.day) (map account_of days)
      → energy_of_days days ≡ sum_by (on_day rows) (map account_of days)
  in_accounts rows [] each = refl
  in_accounts rows (day ∷ days) each =
      let P : DayAccount → Type 0 = λ (a : DayAccount). a ≡ account_on zone rows a.day in
      let here : day.mwh ≡ on_day rows (account_of day) = ap (λ (a : DayAccount). a.mwh) (All-head P (account_of day) (map account_of days) each) in
      let rest = in_accounts rows days (All-tail P (account_of day) (map account_of days) each) in
      omega (arith, here, rest, sum_by-cons (λ (d : DayTotal). d.mwh) day days, sum_by-cons (on_day rows) (account_of day) (map account_of days))

  energy_within : (rows : List Share) (days : List DayTotal) → AreAccounts zone rows (map account_of days) → energy_of_days days ≤ energy_of rows
  energy_within rows days accounts =
      omega (arith, in_accounts rows days accounts.each, by_days (map account_of days) accounts.in_order rows)

-- Lemmas: the limits of a printed row change no energy of a month.

as_they_are : (rows : List Row) → energy_of_rows rows < 2 ^ 64 → map month_of (map shown rows) ≡ map month_of rows
as_they_are [] small = refl
as_they_are (row ∷ rows) small =
    let energies = sum_by-cons (λ (r : Row). r.mwh) row rows in
    let mwh : min row.mwh (2 ^ 128 - 1) ≡ row.mwh = min-eq_left (let le : row.mwh ≤ 2 ^ 128 - 1 = omega (arith, energies, small) in le) in
    rw (mwh, as_they_are rows (omega (arith, energies, small))) refl

all_small : (rows : List Row) → energy_of_rows rows < 2 ^ 64 → All (λ (r : Row). r.mwh < 2 ^ 64) (map shown rows)
all_small [] small = All-nil (λ (r : Row). r.mwh < 2 ^ 64)
all_small (row ∷ rows) small =
    let energies = sum_by-cons (λ (r : Row). r.mwh) row rows in
    let mwh : min row.mwh (2 ^ 128 - 1) ≡ row.mwh = min-eq_left (let le : row.mwh ≤ 2 ^ 128 - 1 = omega (arith, energies, small) in le) in
    All-cons (λ (r : Row). r.mwh < 2 ^ 64) (shown row) (map shown rows) (omega (arith, mwh, energies, small))
    (all_small rows (omega (arith, energies, small)))

-- The energies of all months add up to less than 2^64 mWh.
small_months : (zone : Zone) (shares : List Share) (days : List DayTotal) → energy_of shares ≤ MAX_TOTAL
    → AreAccounts zone shares (map account_of days) → energy_of_rows (rows_by period.Month days) < 2 ^ 64
small_months zone shares days small accounts =
    let whole = sums (λ row. row.mwh) (λ total. total.mwh) (λ row next. refl) (λ total. refl) period.Month days in
    omega (arith, whole, energy_within zone shares days accounts, small)

pub months_are_small : (zone : Zone) (shares : List Share) (days : List DayTotal) (rows : List Row) → energy_of shares ≤ MAX_TOTAL
    → AreAccounts zone shares (map account_of days) → rows ≡ map shown (rows_by period.Month days)
    → All (λ (r : Row). r.mwh < 2 ^ 64) rows
months_are_small zone shares days rows small accounts is =
    subst (All (λ (r : Row). r.mwh < 2 ^ 64)) (sym is) (all_small (rows_by period.Month days) (small_months zone shares days small accounts))

pub months_are : (zone : Zone) (shares : List Share) (days : List DayTotal) (rows : List Row) (months : List SealedMonth)
    → energy_of shares ≤ MAX_TOTAL → AreAccounts zone shares (map account_of days) → rows ≡ map shown (rows_by period.Month days)
    → months ≡ map month_of rows → AreMonths zone shares months
months_are zone shares days rows months small accounts is from = record {
  days = days;
  accounts = accounts;
  months_are = from ∙ ap (map month_of) is
      ∙ as_they_are (rows_by period.Month days) (small_months zone shares days small accounts);
}
