-- Lemmas: suppose that one more interval row (the energy of a quarter hour) is added. Then each day
-- account (the energy of a civil day) has the number of intervals and the energy of all rows of its
-- day.
use Rattle.std.proofs.Common.{◌≡◌, ◌≢◌, ℕ, ◌+◌, ◌-◌, ◌^◌, ◌<◌, ◌≤◌, min, Bool, false, if◌then◌else◌, List, [], ◌∷◌, ◌++◌, length, get_or, refl, sym, ap, subst, ◌∙◌, inl, inr, ◌==◌, arith}
use Rattle.std.specs.Prelude.{ℤ, ◌↔◌, All, Contains, Option, Some, None}
use Rattle.std.specs.Option.{ForSome}
use Rattle.std.specs.Ordering.{int_eq}
use Rattle.std.proofs.lemmas.Bool.{cases_Bool, cases_lt}
use Rattle.std.proofs.lemmas.Bool.Decides.{Decides-eqb, not_from_Decides}
use Rattle.std.proofs.lemmas.List.{map-append, length-append, nil_from_length}
use Rattle.std.proofs.lemmas.List.Elements.{All-nil, All-cons, All-head, All-tail, All-append, All-push, Contains-append_left, Contains-append_right, Contains-append_cases, Contains-push, Contains-push_cases}
use Rattle.std.proofs.lemmas.List.Sums.{sum_by_push}
use Rattle.jiff.proofs.SpanFacts.{signed_arith}
use Rattle.interval_core.specs.declared.shares.Share.{Share}
use Rattle.interval_core.specs.declared.zone.Zone.{Zone}
use Rattle.interval_core.specs.Account.{starts_of, energy_of}
use Rattle.interval_core.specs.Zone.{day_at}
use Rattle.interval_core.specs.Days.{DayAccount, days_of, rows_on, distinct_count, account_on, AreAccounts}
use Rattle.interval_core.specs.Fold.{Grows, Begins, IsLatest}
use Rattle.interval_core.proofs.OrderLemmas.{Earlier, Later, All-split, in_order-between, in_order-changed, in_order-inserted}
use Rattle.interval_core.proofs.PlaceLemmas.{Other, same_day, other_day, absent, not_contained}
use Rattle.interval_core.proofs.CountLemmas.{among, rows_on-same, rows_on-other, distinct_count-push, present, missing, energy-rows_on}

-- True if a day account (the energy of a civil day) is exact: it has the number of intervals and
-- the energy of all interval rows of the day.
abbrev pub IsExact : Zone → List Share → DayAccount → Type 0
IsExact zone rows account = account ≡ account_on zone rows account.day

-- True if an interval row (energy of a quarter hour) on the civil day of the given start already
-- has this start. The day's account then already counts this interval.
abbrev pub is_known : Zone → List Share → ℕ → Bool
is_known zone rows start = among start (starts_of (rows_on zone rows (day_at zone start)))

account-other : (zone : Zone) (rows : List Share) (row : Share) (day : ℤ) → day ≢ day_at zone row.start → account_on zone (rows ++ row ∷ []) day ≡ account_on zone rows day
account-other zone rows row day other =
    let of_rows : List Share → DayAccount = λ rs. record { day = day; count = distinct_count (starts_of rs); mwh = energy_of rs } in
    ap of_rows (rows_on-other zone rows row day other)

account-same : (zone : Zone) (rows : List Share) (row : Share) → account_on zone (rows ++ row ∷ []) (day_at zone row.start)
    ≡ record {
      day = day_at zone row.start;
      count = distinct_count (starts_of (rows_on zone rows (day_at zone row.start))) + (if is_known zone rows row.start then 0 else 1);
      mwh = energy_of (rows_on zone rows (day_at zone row.start)) + row.mwh;
    }
account-same zone rows row =
    let there = rows_on zone rows (day_at zone row.start) in
    let start : Share → ℕ = λ r. r.start in
    let mwh : Share → ℕ = λ r. r.mwh in
    rw (rows_on-same zone rows row, map-append start there (row ∷ []), distinct_count-push (starts_of there) row.start, sum_by_push mwh there row)

ap_account : {count count' mwh mwh' : ℕ} (day : ℤ) → count ≡ count' → mwh ≡ mwh'
    → ◌≡◌ {A = DayAccount} (record { day = day; count = count; mwh = mwh }) (record { day = day; count = count'; mwh = mwh' })
ap_account day same_count same_mwh = rw (same_count, same_mwh)

-- Suppose that an interval row (energy of a quarter hour) is added to a list of rows. Then the
-- accounts of all days other than the row's civil day still have the exact energy of their days
-- (`IsExact`).
others-exact : (zone : Zone) (rows : List Share) (row : Share) (accounts : List DayAccount) → All (IsExact zone rows) accounts → All (Other (day_at zone row.start)) accounts
    → All (IsExact zone (rows ++ row ∷ [])) accounts
others-exact zone rows row accounts exact others = λ k d lt. exact k d lt ∙ sym (account-other zone rows row (get_or accounts k d).day (others k d lt))

days-between : (before : List DayAccount) (a : DayAccount) (after : List DayAccount) → days_of (before ++ a ∷ after) ≡ days_of before ++ a.day ∷ days_of after
days-between before a after = map-append (λ (x : DayAccount). x.day) before (a ∷ after)

-- Adding an interval row (energy of a quarter hour) leaves the number of rows of all days other
-- than the row's civil day unchanged.
same_rows : (zone : Zone) (rows : List Share) (row : Share) (day : ℤ) → day ≢ day_at zone row.start → length (rows_on zone (rows ++ row ∷ []) day) ≡ length (rows_on zone rows day)
same_rows zone rows row day other = ap length (rows_on-other zone rows row day other)

-- After an interval row (energy of a quarter hour) was added, the civil day of this row has at
-- least one row.
more_rows : (zone : Zone) (rows : List Share) (row : Share) → 0 < length (rows_on zone (rows ++ row ∷ []) (day_at zone row.start))
more_rows zone rows row =
    rw rows_on-same (omega (arith, length-append (rows_on zone rows (day_at zone row.start)) (row ∷ [])))

-- A list that consists of some elements, the element `y` and further elements contains `y`.
here-contained : (xs : List ℤ) (y : ℤ) (ys : List ℤ) → Contains (xs ++ y ∷ ys) y
here-contained xs y ys = Contains-append_right xs (y ∷ ys) y (0, omega arith, refl)

-- Inserting an element into a list does not change which other elements the list contains.
between-iff : (xs : List ℤ) (y : ℤ) (ys : List ℤ) (d : ℤ) → d ≢ y → Contains (xs ++ y ∷ ys) d ↔ Contains (xs ++ ys) d
between-iff xs y ys d other = (
  λ contains. elim (Contains-append_cases xs (y ∷ ys) d contains) [
    | inl left ↦ Contains-append_left xs ys d left
    | inr right ↦ elim (Contains-append_cases (y ∷ []) ys d right) [
      | inl one ↦ elim (Contains-push_cases [] y d one) [
        | inl none ↦ absurd (omega (arith, none.1))
        | inr same ↦ absurd (other (sym same))
      ]
      | inr after ↦ Contains-append_right xs ys d after
    ]
  ],
  λ contains. elim (Contains-append_cases xs ys d contains) [
    | inl left ↦ Contains-append_left xs (y ∷ ys) d left
    | inr right ↦ Contains-append_right xs (y ∷ ys) d (Contains-append_right (y ∷ []) ys d right)
  ],
)

-- A property of a given day and of every other day is a property of all days.
by_day_of : (P : ℤ → Type 0) (day : ℤ) → P day → ((d : ℤ) → d ≢ day → P d) → (d : ℤ) → P d
by_day_of P day same other d =
    elim (cases_Bool (int_eq d day)) [
      | inl equal ↦ subst P (sym (same_day d day equal)) same
      | inr differs ↦ other d (other_day d day differs)
    ]

earlier-other : (day : ℤ) (accounts : List DayAccount) → All (Earlier day) accounts → All (Other day) accounts
earlier-other day accounts earlier = λ k d lt same. let before = earlier k d lt in omega (arith, signed_arith, before, same)

later-other : (day : ℤ) (accounts : List DayAccount) → All (Later day) accounts → All (Other day) accounts
later-other day accounts later = λ k d lt same. let after = later k d lt in omega (arith, signed_arith, after, same)

-- If a day has a day account (the energy of the day), adding an interval row (energy of a quarter
-- hour) replaces this account. The new account has the energy of all rows of the day.
pub replaced : (zone : Zone) (rows : List Share) (row : Share) (before : List DayAccount) (a b : DayAccount) (after : List DayAccount)
    → AreAccounts zone rows (before ++ a ∷ after) → a.day ≡ day_at zone row.start → b ≡ account_on zone (rows ++ row ∷ []) (day_at zone row.start)
    → AreAccounts zone (rows ++ row ∷ []) (before ++ b ∷ after)
replaced zone rows row before a b after was same exact =
    let day = day_at zone row.start in
    let now = rows ++ row ∷ [] in
    let around = in_order-between before a after was.in_order in
    let parts = All-split (IsExact zone rows) before (a ∷ after) was.each in
    let b_day : b.day ≡ day = ap (λ (x : DayAccount). x.day) exact in
    let kept_day : b.day ≡ a.day = b_day ∙ sym same in
    let exact_now : IsExact zone now b = exact ∙ ap (account_on zone now) (sym b_day) in
    let same_days : days_of (before ++ b ∷ after) ≡ days_of (before ++ a ∷ after) =
    days-between before b after ∙ ap (λ d. days_of before ++ d ∷ days_of after) kept_day ∙ sym (days-between before a after) in
    let earlier : All (Earlier day) before = rw (← same) around.0 in
    let later : All (Later day) after = rw (← same) around.1 in
    record {
      in_order = in_order-changed before a b after kept_day was.in_order;
      complete = by_day_of (λ d. Contains (days_of (before ++ b ∷ after)) d ↔ (0 < length (rows_on zone now d))) day
          (λ _. more_rows zone rows row, λ _. rw (days-between before b after, b_day) (here-contained (days_of before) day (days_of after)))
          (λ d other. rw (same_days, same_rows zone rows row d other) (was.complete d));
      each = All-append (IsExact zone now) before (b ∷ after)
          (others-exact zone rows row before parts.0 (earlier-other day before earlier))
          (All-cons (IsExact zone now) b after exact_now
          (others-exact zone rows row after (All-tail (IsExact zone rows) a after parts.1) (later-other day after later)));
    }

-- Adding an interval row (energy of a quarter hour) to a day without rows inserts the day account
-- (the energy of the day) with this row alone.
pub inserted : (zone : Zone) (rows : List Share) (row : Share) (before : List DayAccount) (b : DayAccount) (after : List DayAccount)
    → AreAccounts zone rows (before ++ after) → All (Earlier (day_at zone row.start)) before → All (Later (day_at zone row.start)) after
    → b ≡ account_on zone (rows ++ row ∷ []) (day_at zone row.start) → AreAccounts zone (rows ++ row ∷ []) (before ++ b ∷ after)
inserted zone rows row before b after was earlier later exact =
    let day = day_at zone row.start in
    let now = rows ++ row ∷ [] in
    let parts = All-split (IsExact zone rows) before after was.each in
    let b_day : b.day ≡ day = ap (λ (x : DayAccount). x.day) exact in
    let exact_now : IsExact zone now b = exact ∙ ap (account_on zone now) (sym b_day) in
    let days : days_of (before ++ b ∷ after) ≡ days_of before ++ day ∷ days_of after = days-between before b after ∙ ap (λ d. days_of before ++ d ∷ days_of after) b_day in
    let old_days : days_of (before ++ after) ≡ days_of before ++ days_of after = map-append (λ (x : DayAccount). x.day) before after in
    let earlier_b : All (Earlier b.day) before = rw b_day earlier in
    let later_b : All (Later b.day) after = rw b_day later in
    record {
      in_order = in_order-inserted before b after earlier_b later_b was.in_order;
      complete = by_day_of (λ d. Contains (days_of (before ++ b ∷ after)) d ↔ (0 < length (rows_on zone now d))) day
          (λ _. more_rows zone rows row, λ _. rw days (here-contained (days_of before) day (days_of after)))
          (λ d other.
          let old_iff = was.complete d in
          let same = between-iff (days_of before) day (days_of after) d other in
          rw (days, same_rows zone rows row d other)
          (λ contains. old_iff.0 (rw old_days (same.0 contains)), λ some. same.1 (rw old_days at (old_iff.1 some))));
      each = All-append (IsExact zone now) before (b ∷ after)
          (others-exact zone rows row before parts.0 (earlier-other day before earlier))
          (All-cons (IsExact zone now) b after exact_now (others-exact zone rows row after parts.1 (later-other day after later)));
    }

pub grown : (zone : Zone) (rows : List Share) (row : Share) (count : ℕ) (old new : List DayAccount) → AreAccounts zone rows old
    → Grows (day_at zone row.start) count row.mwh old new → count ≡ (if is_known zone rows row.start then 0 else 1) → energy_of rows + row.mwh < 2 ^ 128
    → AreAccounts zone (rows ++ row ∷ []) new
grown zone rows row count old new accounts grows counted fits =
    let day = day_at zone row.start in
    let a : DayAccount = record { day = day; count = grows.had_count; mwh = grows.had_mwh } in
    let b : DayAccount = record { day = day; count = grows.had_count + count; mwh = min (grows.had_mwh + row.mwh) (2 ^ 128 - 1) } in
    let was : AreAccounts zone rows (grows.before ++ a ∷ grows.after) = subst (AreAccounts zone rows) grows.old_is accounts in
    let exact : a ≡ account_on zone rows day = All-head (IsExact zone rows) a grows.after (All-split (IsExact zone rows) grows.before (a ∷ grows.after) was.each).1 in
    let had_mwh_is : grows.had_mwh ≡ energy_of (rows_on zone rows day) = ap (λ (x : DayAccount). x.mwh) exact in
    let had_count_is : grows.had_count ≡ distinct_count (starts_of (rows_on zone rows day)) = ap (λ (x : DayAccount). x.count) exact in
    let count_is : grows.had_count + count ≡ distinct_count (starts_of (rows_on zone rows day)) + (if is_known zone rows row.start then 0 else 1) = rw (had_count_is, counted) in
    let mwh_is : min (grows.had_mwh + row.mwh) (2 ^ 128 - 1) ≡ energy_of (rows_on zone rows day) + row.mwh = omega (arith, had_mwh_is, energy-rows_on zone rows day, fits) in
    rw grows.new_is (replaced zone rows row grows.before a b grows.after was refl (ap_account day count_is mwh_is ∙ sym (account-same zone rows row)))

pub begun : (zone : Zone) (rows : List Share) (row : Share) (old new : List DayAccount) → AreAccounts zone rows old
    → Begins (day_at zone row.start) row.mwh old new → AreAccounts zone (rows ++ row ∷ []) new
begun zone rows row old new accounts begins =
    let day = day_at zone row.start in
    let before = begins.before in
    let after = begins.after in
    let b : DayAccount = record { day = day; count = 1; mwh = row.mwh } in
    let was : AreAccounts zone rows (before ++ after) = subst (AreAccounts zone rows) begins.old_is accounts in
    let none : rows_on zone rows day ≡ [] =
    nil_from_length (rows_on zone rows day) (elim (cases_lt 0 (length (rows_on zone rows day))) [
      | inl some ↦ absurd (not_contained day (before ++ after) (absent day before after begins.earlier begins.later) ((was.complete day).1 some))
      | inr none_left ↦ omega arith
    ]) in
    let of_rows : List Share → DayAccount = λ rs. record { day = day; count = distinct_count (starts_of rs); mwh = energy_of rs } in
    let exact : b ≡ account_on zone (rows ++ row ∷ []) day =
    ap_account day refl (omega arith) ∙ sym (ap of_rows (rows_on-same zone rows row ∙ ap (λ (rs : List Share). rs ++ row ∷ []) none)) in
    rw begins.new_is (inserted zone rows row before b after was begins.earlier begins.later exact)

-- True if a start time equals the latest start time of all earlier interval rows (energies of
-- quarter hours). False if there are no earlier rows.
abbrev pub is_latest : Option ℕ → ℕ → Bool
is_latest None start = false
is_latest (Some latest) start = latest == start

pub known-is : (zone : Zone) (rows : List Share) (latest : Option ℕ) (start : ℕ) → IsLatest rows latest → ForSome latest (λ l. l ≤ start)
    → is_known zone rows start ≡ is_latest latest start
known-is zone rows None start empty order = rw empty
known-is zone rows (Some latest) start at order =
    elim (cases_Bool (latest == start)) [
      | inl same ↦
          let e : latest ≡ start = (Decides-eqb latest start).0 same in
          rw (same, ← e) (present zone rows latest at.0)
      | inr differs ↦
          let other : latest ≢ start = not_from_Decides (latest == start) (Decides-eqb latest start) differs in
          rw differs (missing zone rows (day_at zone start) start (λ k d lt. let le = at.1 k d lt in let bound = order latest refl in omega (arith, le, bound, other)))
    ]

upto : (rows : List Share) (latest : Option ℕ) (start : ℕ) → IsLatest rows latest → ForSome latest (λ l. l ≤ start) → All (λ (r : Share). r.start ≤ start) rows
upto rows None start empty order = rw empty (All-nil (λ (r : Share). r.start ≤ start))
upto rows (Some latest) start at order = λ k d lt. let le = at.1 k d lt in let bound = order latest refl in omega (arith, le, bound)

pub latest-push : (rows : List Share) (latest : Option ℕ) (row : Share) → IsLatest rows latest → ForSome latest (λ l. l ≤ row.start)
    → IsLatest (rows ++ row ∷ []) (Some row.start)
latest-push rows latest row is order =
    let P : Share → Type 0 = λ r. r.start ≤ row.start in
    (rw map-append (Contains-push (starts_of rows) row.start), All-push P rows row (upto rows latest row.start is order) (omega arith))
