-- Lemmas about the energy of each civil day in a range. The energy can be computed from the
-- interval rows (energy by quarter hour) of a time span around the range.
use Rattle.std.proofs.Common.{◌≡◌, ℕ, ◌<◌, Bool, true, false, cond, Some, None, List, [], ◌∷◌, length, refl, sym, ap, subst, ◌∙◌, inl, inr, arith}
use Rattle.std.specs.Prelude.{ℤ, ◌<ℤ◌, ◌&&◌, Contains, filter, map}
use Rattle.std.specs.Ordering.{int_eq}
use Rattle.std.proofs.lemmas.Bool.{cases_Bool, cond-true, cond-false}
use Rattle.std.proofs.lemmas.Bool.Decides.{Decides-int_eq}
use Rattle.std.proofs.lemmas.List.Elements.{All-filter, All-contains, All-map, Contains-append_left, Contains-append_right, Contains-append_cases, Contains-push_cases, filter_passes}
use Rattle.interval_core.specs.declared.shares.Share.{Share}
use Rattle.interval_core.specs.declared.zone.Zone.{Zone}
use Rattle.interval_core.specs.Account.{starts_of, energy_of}
use Rattle.interval_core.specs.Zone.{day_at}
use Rattle.interval_core.specs.Ranges.{begins_by, begins_by_number, days_in, ends_after, ends_after_number, has_day, is_in}
use Rattle.interval_core.specs.declared.day_range.DayRange.{DayRange}
use Rattle.interval_core.specs.Days.{DayAccount, account_of, days_of, rows_on, distinct_count, account_on, AreAccounts, AreInOrder, AccountsAreOne}
use Rattle.interval_core.specs.declared.totals.DayTotal.{DayTotal}
use Rattle.office_books.specs.declared.spans.Span.{Span}
use Rattle.office_books.specs.declared.spans.Span.TheVariants as span
use Rattle.office_books.specs.Spans.{is_within, rows_within}
use Rattle.office_core.specs.DayRange.{accounts_within}

-- Lemmas on two filters that are applied in sequence. If the first filter keeps all elements that
-- the second keeps, then the second filter alone has the same result.

filter_through : {X : Type 0} (p q : X → Bool) → ((x : X) → p x ≡ true → q x ≡ true) → (xs : List X) → filter p (filter q xs) ≡ filter p xs
filter_through p q through [] = refl
filter_through p q through (x ∷ xs) =
    let rest = filter_through p q through xs in
    elim (cases_Bool (q x)) [
      | inl passes ↦ ap (filter p) (cond-true _ _ _ passes)
          ∙ elim (p x) as (λ b. cond b (x ∷ filter p (filter q xs)) (filter p (filter q xs)) ≡ cond b (x ∷ filter p xs) (filter p xs)) [
            | true ↦ ap (λ l. x ∷ l) rest
            | false ↦ rest
          ]
      | inr fails ↦ ap (filter p) (cond-false _ _ _ fails) ∙ rest ∙ sym (elim (cases_Bool (p x)) [
        | inl is ↦ absurd (let e : false ≡ true = sym fails ∙ through x is in cc)
        | inr isnt ↦ cond-false _ _ _ isnt
      ])
    ]

filter_apart : {X : Type 0} (p q : X → Bool) → ((x : X) → p x ≡ true → q x ≡ false) → (xs : List X) → filter p (filter q xs) ≡ []
filter_apart p q apart [] = refl
filter_apart p q apart (x ∷ xs) =
    let rest = filter_apart p q apart xs in
    elim (cases_Bool (q x)) [
      | inl passes ↦ ap (filter p) (cond-true _ _ _ passes) ∙ elim (cases_Bool (p x)) [
        | inl is ↦ absurd (let e : false ≡ true = sym (apart x is) ∙ passes in cc)
        | inr isnt ↦ cond-false _ _ _ isnt ∙ rest
      ]
      | inr fails ↦ ap (filter p) (cond-false _ _ _ fails) ∙ rest
    ]

-- Lemmas on the civil days of the interval rows (energy by quarter hour) that a filter keeps.

module _ (zone : Zone) (asked : ℤ → Bool) where
  abbrev row_asked : Share → Bool
  row_asked row = asked (day_at zone row.start)

  abbrev account_asked : DayAccount → Bool
  account_asked account = asked account.day

  abbrev on_day : ℤ → Share → Bool
  on_day day row = int_eq (day_at zone row.start) day

  day_is : (day : ℤ) (row : Share) → on_day day row ≡ true → row_asked row ≡ asked day
  day_is day row is = ap asked ((Decides-int_eq (day_at zone row.start) day).0 is)

  rows_asked : (rows : List Share) (day : ℤ) → asked day ≡ true → rows_on zone (filter row_asked rows) day ≡ rows_on zone rows day
  rows_asked rows day is = filter_through (on_day day) row_asked (λ row on. day_is day row on ∙ is) rows

  rows_other : (rows : List Share) (day : ℤ) → asked day ≡ false → rows_on zone (filter row_asked rows) day ≡ []
  rows_other rows day isnt = filter_apart (on_day day) row_asked (λ row on. day_is day row on ∙ isnt) rows

  in_order : (accounts : List DayAccount) → AreInOrder accounts → AreInOrder (filter account_asked accounts)
  in_order [] order = tt
  in_order (account ∷ accounts) order =
      let rest = in_order accounts order.1 in
      elim (account_asked account) as (λ b. AreInOrder (cond b (account ∷ filter account_asked accounts) (filter account_asked accounts))) [
        | true ↦ (All-filter account_asked (λ later. account.day <ℤ later.day) accounts order.0, rest)
        | false ↦ rest
      ]

  contains_more : (accounts : List DayAccount) (day : ℤ) → Contains (days_of (filter account_asked accounts)) day → Contains (days_of accounts) day
  contains_more [] day has = has
  contains_more (account ∷ accounts) day has =
      let rest = contains_more accounts day in
      let further : Contains (days_of accounts) day → Contains (days_of (account ∷ accounts)) day = Contains-append_right (account.day ∷ []) (days_of accounts) day in
      elim (account_asked account) as (λ b. Contains (days_of (cond b (account ∷ filter account_asked accounts) (filter account_asked accounts))) day → Contains (days_of (account ∷ accounts)) day) [
        | true ↦ λ h. elim (Contains-append_cases (account.day ∷ []) (days_of (filter account_asked accounts)) day h) [
          | inl here ↦ Contains-append_left (account.day ∷ []) (days_of accounts) day here
          | inr there ↦ further (rest there)
        ]
        | false ↦ λ h. further (rest h)
      ] has

  contains_asked : (accounts : List DayAccount) (day : ℤ) → Contains (days_of (filter account_asked accounts)) day → asked day ≡ true
  contains_asked accounts day has =
      let P : ℤ → Type 0 = λ d. asked d ≡ true in
      All-contains P (days_of (filter account_asked accounts)) day (All-map P (λ (account : DayAccount). account.day) (filter account_asked accounts) (filter_passes account_asked accounts)) has

  contains_kept : (accounts : List DayAccount) (day : ℤ) → asked day ≡ true → Contains (days_of accounts) day → Contains (days_of (filter account_asked accounts)) day
  contains_kept [] day is has = has
  contains_kept (account ∷ accounts) day is has =
      let rest = contains_kept accounts day is in
      elim (Contains-append_cases (account.day ∷ []) (days_of accounts) day has) [
        | inl here ↦ elim (Contains-push_cases [] account.day day here) [
          | inl none ↦ absurd (omega (arith, none.1))
          | inr same ↦
              let test : account_asked account ≡ true = ap asked same ∙ is in
              let kept : filter account_asked (account ∷ accounts) ≡ account ∷ filter account_asked accounts = cond-true _ _ _ test in
              subst (λ l. Contains (days_of l) day) (sym kept) (Contains-append_left (account.day ∷ []) (days_of (filter account_asked accounts)) day here)
        ]
        | inr there ↦ elim (account_asked account) as (λ b. Contains (days_of (cond b (account ∷ filter account_asked accounts) (filter account_asked accounts))) day) [
          | true ↦ Contains-append_right (account.day ∷ []) (days_of (filter account_asked accounts)) day (rest there)
          | false ↦ rest there
        ]
      ]

  abbrev of_rows : ℤ → List Share → DayAccount
  of_rows day rows = record { day = day; count = distinct_count (starts_of rows); mwh = energy_of rows }

  -- If the list `accounts` has the energy of each civil day, then its entries for the requested
  -- days have the energy of the interval rows on these days.
  pub accounts_asked : (rows : List Share) (accounts : List DayAccount) → AreAccounts zone rows accounts → AreAccounts zone (filter row_asked rows) (filter account_asked accounts)
  accounts_asked rows accounts are = record {
    in_order = in_order accounts are.in_order;
    complete = λ day. elim (cases_Bool (asked day)) [
      | inl is ↦ (
        λ has. subst (λ (l : List Share). 0 < length l) (sym (rows_asked rows day is)) ((are.complete day).0 (contains_more accounts day has)),
        λ some. contains_kept accounts day is ((are.complete day).1 (subst (λ (l : List Share). 0 < length l) (rows_asked rows day is) some)),
      )
      | inr isnt ↦ (
        λ has. absurd (let e : false ≡ true = sym isnt ∙ contains_asked accounts day has in cc),
        λ some. absurd (let none = subst (λ (l : List Share). 0 < length l) (rows_other rows day isnt) some in omega (arith, none)),
      )
    ];
    each = λ k d less.
        let is = filter_passes account_asked accounts k d less in
        let whole = All-filter account_asked (λ account. account ≡ account_on zone rows account.day) accounts are.each k d less in
        whole ∙ sym (ap (of_rows _) (rows_asked rows _ is));
  }

  -- If a filter keeps all interval rows (energy by quarter hour) of the requested days, then the
  -- energy of these days is unchanged.
  pub same_days : (among : Share → Bool) → ((row : Share) → row_asked row ≡ true → among row ≡ true)
      → AccountsAreOne → (rows : List Share) (some all : List DayAccount)
      → AreAccounts zone (filter among rows) some → AreAccounts zone rows all → filter account_asked some ≡ filter account_asked all
  same_days among through one rows some all are_some are_all =
      let both : filter row_asked (filter among rows) ≡ filter row_asked rows = filter_through row_asked among through rows in
      let left = subst (λ (l : List Share). AreAccounts zone l (filter account_asked some)) both (accounts_asked (filter among rows) some are_some) in
      let right = accounts_asked rows all are_all in
      let unique = one zone (filter row_asked rows) in
      unique.2 _ left ∙ sym (unique.2 _ right)

-- Lemmas: the energy of each civil day in a range, added up from the quarter hours of a time span
-- around the range, equals that added up from all quarter hours.

-- If a filter accepts each element, then the filtered list equals the complete list.
all_kept : {X : Type 0} (xs : List X) → filter (λ x. true) xs ≡ xs
all_kept [] = refl
all_kept (x ∷ xs) = ap (λ l. x ∷ l) (all_kept xs)

by_test : (asked : Span) (rows : List Share) → rows_within asked rows ≡ filter (λ row. is_within asked row.start) rows
by_test span.All rows = sym (all_kept rows)
by_test (span.Between from till) rows = refl

-- The test whether a date is in a range of dates gives the same result as comparing the dates' day
-- numbers.
is_in_number : (range : DayRange) (total : DayTotal) → is_in range total.day ≡ has_day range (account_of total).day
is_in_number range total =
    elim range.from as (λ from. (begins_by from total.day && ends_after range.till total.day)
    ≡ (begins_by_number from (account_of total).day && ends_after_number range.till (account_of total).day)) [
      | None ↦ elim range.till as (λ till. ends_after till total.day ≡ ends_after_number till (account_of total).day) [
        | None ↦ refl
        | Some last ↦ refl
      ]
      | Some first ↦ elim range.till as (λ till. (begins_by (Some first) total.day && ends_after till total.day)
          ≡ (begins_by_number (Some first) (account_of total).day && ends_after_number till (account_of total).day)) [
            | None ↦ refl
            | Some last ↦ refl
          ]
    ]

accounts_of : (range : DayRange) (days : List DayTotal) → map account_of (days_in range days) ≡ accounts_within range (map account_of days)
accounts_of range [] = refl
accounts_of range (day ∷ days) =
    let rest = accounts_of range days in
    let P : Bool → Type 0 = λ b. map account_of (cond (is_in range day.day) (day ∷ days_in range days) (days_in range days))
    ≡ cond b (account_of day ∷ accounts_within range (map account_of days)) (accounts_within range (map account_of days)) in
    subst P (is_in_number range day)
    (elim (is_in range day.day) as (λ b. map account_of (cond b (day ∷ days_in range days) (days_in range days))
    ≡ cond b (account_of day ∷ accounts_within range (map account_of days)) (accounts_within range (map account_of days))) [
      | true ↦ ap (λ l. account_of day ∷ l) rest
      | false ↦ rest
    ])

pub days_within : (zone : Zone) (range : DayRange) (asked : Span) → ((start : ℕ) → has_day range (day_at zone start) ≡ true → is_within asked start ≡ true)
    → AccountsAreOne → (rows : List Share) (totals kept : List DayTotal) → AreAccounts zone (rows_within asked rows) (map account_of totals)
    → kept ≡ days_in range totals
    → (all : List DayAccount) × AreAccounts zone rows all × (map account_of kept ≡ accounts_within range all)
days_within zone range asked around one rows totals kept are is =
    let all = one zone rows in
    let tested = subst (λ (l : List Share). AreAccounts zone l (map account_of totals)) (by_test asked rows) are in (
      all.0,
      all.1,
      ap (map account_of) is ∙ accounts_of range totals
          ∙ same_days zone (has_day range) (λ row. is_within asked row.start) (λ row on. around row.start on) one rows (map account_of totals) all.0 tested all.1,
    )
