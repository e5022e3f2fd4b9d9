-- Lemmas: suppose that one more interval row (energy of a quarter hour) is added. Then the number
-- of different starts in its day grows by one if no earlier row of the day has its start.
use Rattle.std.proofs.Common.{◌≡◌, ◌≢◌, ℕ, ◌+◌, ◌<◌, ◌≤◌, ◌||◌, ◌==◌, if◌then◌else◌, cond, Bool, true, false, List, [], ◌∷◌, ◌++◌, refl, sym, ap, subst, ◌∙◌, inl, inr, arith}
use Rattle.std.specs.Prelude.{ℤ, All, Contains, filter}
use Rattle.std.specs.List.{list_any}
use Rattle.std.specs.Ordering.{int_eq}
use Rattle.std.proofs.lemmas.Bool.Decides.{Decides-int_eq, Decides-eqb}
use Rattle.std.proofs.lemmas.Bool.{cases_Bool, cases_eq}
use Rattle.std.proofs.lemmas.List.{append-nil}
use Rattle.std.proofs.lemmas.List.Elements.{filter-append, All-head, All-tail, Contains-append_cases, Contains-push_cases}
use Rattle.std.proofs.lemmas.List.Sums.{sum_by-cons}
use Rattle.interval_core.specs.declared.shares.Share.{Share}
use Rattle.interval_core.specs.declared.zone.Zone.{Zone}
use Rattle.interval_core.specs.Account.{starts_of, energy_of}
use Rattle.interval_core.specs.Zone.{day_at}
use Rattle.interval_core.specs.Days.{rows_on, distinct_count}

-- True if a list of start times of quarter hours contains the given start time.
abbrev pub among : ℕ → List ℕ → Bool
among start starts = list_any (λ n. n == start) starts

abbrev one_if_new : Bool → ℕ
one_if_new known = if known then 0 else 1

-- Adding an interval row (energy of a quarter hour) appends the row to the rows of its civil day.
pub rows_on-same : (zone : Zone) (rows : List Share) (row : Share) → rows_on zone (rows ++ row ∷ []) (day_at zone row.start) ≡ rows_on zone rows (day_at zone row.start) ++ row ∷ []
rows_on-same zone rows row =
    let day = day_at zone row.start in
    let test : int_eq day day ≡ true = (Decides-int_eq day day).1 refl in
    let p : Share → Bool = λ r. int_eq (day_at zone r.start) day in
    filter-append p rows (row ∷ []) ∙ ap (λ (l : List Share). filter p rows ++ l) (ap (λ b. cond b (row ∷ []) []) test)

pub rows_on-other : (zone : Zone) (rows : List Share) (row : Share) (day : ℤ) → day ≢ day_at zone row.start → rows_on zone (rows ++ row ∷ []) day ≡ rows_on zone rows day
rows_on-other zone rows row day other =
    let p : Share → Bool = λ r. int_eq (day_at zone r.start) day in
    let test : int_eq (day_at zone row.start) day ≡ false = elim (cases_Bool (int_eq (day_at zone row.start) day)) [
      | inl same ↦ absurd (other (sym ((Decides-int_eq (day_at zone row.start) day).0 same)))
      | inr differs ↦ differs
    ] in
    filter-append p rows (row ∷ []) ∙ ap (λ (l : List Share). filter p rows ++ l) (ap (λ b. cond b (row ∷ []) []) test) ∙ append-nil (filter p rows)

-- Equal numbers compare as equal.
eq_true : (m n : ℕ) → m ≡ n → (m == n) ≡ true
eq_true m n e = (Decides-eqb m n).1 e

eq_false : (m n : ℕ) → m ≢ n → (m == n) ≡ false
eq_false m n other =
    elim (cases_Bool (m == n)) [
      | inl same ↦ absurd (other ((Decides-eqb m n).0 same))
      | inr differs ↦ differs
    ]

among-push : (n : ℕ) (starts : List ℕ) (m : ℕ) → among n (starts ++ m ∷ []) ≡ (among n starts || (m == n))
among-push n [] m = elim (m == n) as (λ b. (b || false) ≡ (false || b)) [ true ↦ refl | false ↦ refl ]
among-push n (k ∷ starts) m =
    elim (k == n) as (λ b. (b || among n (starts ++ m ∷ [])) ≡ ((b || among n starts) || (m == n))) [ true ↦ refl | false ↦ among-push n starts m ]

count-same : (b : Bool) (count : ℕ) → one_if_new (b || true) + (count + one_if_new b) ≡ one_if_new b + count + one_if_new true
count-same true count = omega arith
count-same false count = omega arith

count-other : (b c : Bool) (count : ℕ) → one_if_new (b || false) + (count + one_if_new c) ≡ one_if_new b + count + one_if_new (false || c)
count-other true c count = omega arith
count-other false c count = omega arith

pub distinct_count-push : (starts : List ℕ) (m : ℕ) → distinct_count (starts ++ m ∷ []) ≡ distinct_count starts + one_if_new (among m starts)
distinct_count-push [] m = refl
distinct_count-push (n ∷ starts) m =
    elim (cases_eq n m) [
      | inl same ↦
          let P : ℕ → Type 0 = λ k. distinct_count ((n ∷ starts) ++ k ∷ []) ≡ distinct_count (n ∷ starts) + one_if_new (among k (n ∷ starts)) in
          subst P same (rw (among-push n starts n, distinct_count-push starts n, eq_true n n refl) (count-same (among n starts) (distinct_count starts)))
      | inr other ↦
          let flipped : m ≢ n = λ e. other (sym e) in
          rw (among-push n starts m, distinct_count-push starts m, eq_false m n flipped, eq_false n m other)
          (count-other (among n starts) (among m starts) (distinct_count starts))
    ]

-- If a start time is among the starts of all interval rows (energies of quarter hours), it is also
-- among the starts of the rows of its civil day.
pub present : (zone : Zone) (rows : List Share) (start : ℕ) → Contains (starts_of rows) start → among start (starts_of (rows_on zone rows (day_at zone start))) ≡ true
present zone [] start contains = absurd (omega (arith, contains.1))
present zone (row ∷ rows) start contains =
    let test = int_eq (day_at zone row.start) (day_at zone start) in
    let others = rows_on zone rows (day_at zone start) in
    elim (Contains-append_cases (row.start ∷ []) (starts_of rows) start contains) [
      | inl here ↦ elim (Contains-push_cases [] row.start start here) [
        | inl none ↦ absurd (omega (arith, none.1))
        | inr same ↦
            let passes : test ≡ true = (Decides-int_eq (day_at zone row.start) (day_at zone start)).1 (ap (λ s. day_at zone s) same) in
            ap (λ b. among start (starts_of (cond b (row ∷ others) others))) passes ∙ ap (λ b. b || among start (starts_of others)) (eq_true row.start start same)
      ]
      | inr there ↦
          let rest = present zone rows start there in
          elim test as (λ b. among start (starts_of (cond b (row ∷ others) others)) ≡ true) [
            | true ↦ elim (row.start == start) as (λ b. (b || among start (starts_of others)) ≡ true) [ true ↦ refl | false ↦ rest ]
            | false ↦ rest
          ]
    ]

-- A start time that is later than the starts of all interval rows (energies of quarter hours) is
-- not among the starts of a day's rows.
pub missing : (zone : Zone) (rows : List Share) (day : ℤ) (start : ℕ) → All (λ (row : Share). row.start < start) rows → among start (starts_of (rows_on zone rows day)) ≡ false
missing zone [] day start earlier = refl
missing zone (row ∷ rows) day start earlier =
    let P : Share → Type 0 = λ r. r.start < start in
    let others = rows_on zone rows day in
    let lt : row.start < start = All-head P row rows earlier in
    let none = missing zone rows day start (All-tail P row rows earlier) in
    elim (int_eq (day_at zone row.start) day) as (λ b. among start (starts_of (cond b (row ∷ others) others)) ≡ false) [
      | true ↦ rw (eq_false row.start start (λ e. omega arith)) none
      | false ↦ none
    ]

-- The energy of the interval rows (energies of quarter hours) of a day is at most the energy of all
-- rows.
pub energy-rows_on : (zone : Zone) (rows : List Share) (day : ℤ) → energy_of (rows_on zone rows day) ≤ energy_of rows
energy-rows_on zone [] day = omega arith
energy-rows_on zone (row ∷ rows) day =
    let mwh : Share → ℕ = λ r. r.mwh in
    let others = rows_on zone rows day in
    let rest = energy-rows_on zone rows day in
    let all = sum_by-cons mwh row rows in
    elim (int_eq (day_at zone row.start) day) as (λ b. energy_of (cond b (row ∷ others) others) ≤ energy_of (row ∷ rows)) [
      | true ↦ omega (arith, sum_by-cons mwh row others, all, rest)
      | false ↦ omega (arith, all, rest)
    ]
