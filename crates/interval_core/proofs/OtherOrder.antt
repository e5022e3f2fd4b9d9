-- The order of interval rows (energies of quarter hours) does not change the energy of each civil
-- day.
use Rattle.std.proofs.Common.{◌≡◌, ℕ, zero, suc, ◌+◌, ◌<◌, ◌≤◌, ◌==◌, ◌||◌, Bool, true, false, cond, List, [], ◌∷◌, length, refl, sym, ap, ◌∙◌, inl, inr, arith}
use Rattle.std.specs.Prelude.{ℤ, filter, sum_by}
use Rattle.std.specs.List.{list_any}
use Rattle.std.specs.List.Sorted.{IsPermutation}
use Rattle.std.specs.Ordering.{int_eq}
use Rattle.std.proofs.lemmas.Bool.{cases_Bool, eqb-true}
use Rattle.std.proofs.lemmas.Bool.Decides.{nat_tests}
use Rattle.std.proofs.lemmas.List.Elements.{All-weaker}
use Rattle.std.proofs.lemmas.List.Sorted.{sum_by-IsPermutation}
use Rattle.std.proofs.lemmas.List.Sums.{sum_by-cons, length-filter}
use Rattle.interval_core.specs.declared.shares.Share.{Share}
use Rattle.interval_core.specs.declared.zone.Zone.{Zone}
use Rattle.interval_core.specs.Account.{starts_of, energy_of}
use Rattle.interval_core.specs.Zone.{day_at}
use Rattle.interval_core.specs.Days.{DayAccount, rows_on, distinct_count, account_on, AccountsIgnoreOrder}

-- The value of a given function for an interval row (energy of a quarter hour) that passes a test,
-- or 0 for any other row.

abbrev if_passes : (Share → Bool) → (Share → ℕ) → Share → ℕ
if_passes p w row = cond (p row) (w row) 0

sum_passing : (p : Share → Bool) (w : Share → ℕ) (rows : List Share) → sum_by w (filter p rows) ≡ sum_by (if_passes p w) rows
sum_passing p w [] = refl
sum_passing p w (row ∷ rows) =
    let rest = sum_passing p w rows in
    let all = sum_by-cons (if_passes p w) row rows in
    elim (p row) as (λ b. sum_by (if_passes p w) (row ∷ rows) ≡ cond b (w row) 0 + sum_by (if_passes p w) rows
    → sum_by w (cond b (row ∷ filter p rows) (filter p rows)) ≡ sum_by (if_passes p w) (row ∷ rows)) [
      | true ↦ λ is. omega (arith, is, rest, sum_by-cons w row (filter p rows))
      | false ↦ λ is. omega (arith, is, rest)
    ] all

sum_moved : (p : Share → Bool) (w : Share → ℕ) (rows others : List Share) → IsPermutation rows others
    → sum_by w (filter p rows) ≡ sum_by w (filter p others)
sum_moved p w rows others h =
    omega (arith, sum_passing p w rows, sum_passing p w others, sum_by-IsPermutation (if_passes p w) rows others h)

-- The number 1 for an interval row (energy of a quarter hour) with the given start, or 0 for any
-- other row.

abbrev is_at : ℕ → Share → ℕ
is_at start row = cond (row.start == start) 1 0

abbrev one_if_some : ℕ → ℕ
one_if_some zero = 0
one_if_some (suc n) = 1

abbrev counted : (bound : ℕ) → List Share → ℕ
counted zero rows = 0
counted (suc start) rows = one_if_some (sum_by (is_at start) rows) + counted start rows

-- A start time is in the list of all starts of interval rows (energies of quarter hours) if and
-- only if at least one row has this start.
there_or_not : (start : ℕ) (rows : List Share) → one_if_some (sum_by (is_at start) rows) ≡ cond (list_any (λ m. m == start) (starts_of rows)) 1 0
there_or_not start [] = refl
there_or_not start (row ∷ rows) =
    let all : sum_by (is_at start) (row ∷ rows) ≡ cond (row.start == start) 1 0 + sum_by (is_at start) rows = sum_by-cons (is_at start) row rows in
    ap one_if_some all ∙ first (row.start == start) (sum_by (is_at start) rows) (list_any (λ m. m == start) (starts_of rows)) (there_or_not start rows)
  where
    first : (b : Bool) (n : ℕ) (c : Bool) → one_if_some n ≡ cond c 1 0 → one_if_some (cond b 1 0 + n) ≡ cond (b || c) 1 0
    first true n c h = ap one_if_some (let e : 1 + n ≡ suc n = omega arith in e)
    first false n c h = ap one_if_some (let e : 0 + n ≡ n = omega arith in e) ∙ h

one_more : (start : ℕ) (row : Share) (rows : List Share) → row.start == start ≡ false
    → one_if_some (sum_by (is_at start) (row ∷ rows)) ≡ one_if_some (sum_by (is_at start) rows)
one_more start row rows off =
    let here : is_at start row ≡ 0 = ap (λ b. cond b 1 0) off in
    ap one_if_some (let e : sum_by (is_at start) (row ∷ rows) ≡ sum_by (is_at start) rows = omega (arith, sum_by-cons (is_at start) row rows, here) in e)

beyond : (bound : ℕ) (row : Share) (rows : List Share) → bound ≤ row.start → counted bound (row ∷ rows) ≡ counted bound rows
beyond zero row rows le = refl
beyond (suc start) row rows le =
    let off : row.start == start ≡ false = grind (arith, nat_tests, le) in
    omega (arith, one_more start row rows off, beyond start row rows (omega (arith, le)))

within : (bound : ℕ) (row : Share) (rows : List Share) → row.start < bound
    → counted bound (row ∷ rows) ≡ cond (list_any (λ m. m == row.start) (starts_of rows)) 0 1 + counted bound rows
within zero row rows lt = absurd (omega (arith, lt))
within (suc start) row rows lt =
    elim (cases_Bool (row.start == start)) [
      | inl e ↦
          let is : row.start ≡ start = eqb-true row.start start e in
          let some : one_if_some (sum_by (is_at start) (row ∷ rows)) ≡ 1 =
          there_or_not start (row ∷ rows) ∙ ap (λ b. cond (b || list_any (λ m. m == start) (starts_of rows)) 1 0) e in
          let before = there_or_not start rows in
          let known : cond (list_any (λ m. m == row.start) (starts_of rows)) 0 1 ≡ cond (list_any (λ m. m == start) (starts_of rows)) 0 1 =
          ap (λ (n : ℕ). let k : ℕ = cond (list_any (λ m. m == n) (starts_of rows)) 0 1 in k) is in
          omega (arith, some, before, known, one_or_none (list_any (λ m. m == start) (starts_of rows)), beyond start row rows (omega (arith, is)))
      | inr off ↦
          let less : row.start < start = grind (arith, nat_tests, lt, off) in
          omega (arith, one_more start row rows off, within start row rows less)
    ]
  where
    one_or_none : (b : Bool) → (let one : ℕ = cond b 1 0 in one) + cond b 0 1 ≡ 1
    one_or_none true = refl
    one_or_none false = refl

all_counted : (bound : ℕ) (rows : List Share) → sum_by (λ row. row.start) rows < bound → distinct_count (starts_of rows) ≡ counted bound rows
all_counted bound [] lt = sym (none bound)
  where
    none : (bound : ℕ) → counted bound [] ≡ 0
    none zero = refl
    none (suc n) = omega (arith, none n)
all_counted bound (row ∷ rows) lt =
    let start : Share → ℕ = λ r. r.start in
    let sum = sum_by-cons start row rows in
    omega (arith, all_counted bound rows (omega (arith, lt, sum)), within bound row rows (omega (arith, lt, sum)))

counted_alike : (bound : ℕ) (rows others : List Share) → ((n : ℕ) → sum_by (is_at n) rows ≡ sum_by (is_at n) others) → counted bound rows ≡ counted bound others
counted_alike zero rows others h = refl
counted_alike (suc n) rows others h = omega (arith, ap one_if_some (h n), counted_alike n rows others h)

-- The order of interval rows (energies of quarter hours) does not change the number of different
-- starts of the rows that pass a test.

count_moved : (p : Share → Bool) (rows others : List Share) → IsPermutation rows others
    → distinct_count (starts_of (filter p rows)) ≡ distinct_count (starts_of (filter p others))
count_moved p rows others h =
    let start : Share → ℕ = λ row. row.start in
    let bound : ℕ = suc (sum_by start (filter p rows)) in
    let same = sum_moved p start rows others h in
    omega (
      arith,
      all_counted bound (filter p rows) (omega arith),
      all_counted bound (filter p others) (omega (arith, same)),
      counted_alike bound (filter p rows) (filter p others) (λ n. sum_moved p (is_at n) rows others h),
    )

account_moved : (zone : Zone) (rows others : List Share) (day : ℤ) → IsPermutation rows others → account_on zone rows day ≡ account_on zone others day
account_moved zone rows others day h =
    let p : Share → Bool = λ row. int_eq (day_at zone row.start) day in
    let mwh : Share → ℕ = λ row. row.mwh in
    ap (λ n. let a : DayAccount = record { day = day; count = n; mwh = energy_of (rows_on zone rows day) } in a) (count_moved p rows others h)
    ∙ ap (λ n. let a : DayAccount = record { day = day; count = distinct_count (starts_of (rows_on zone others day)); mwh = n } in a) (sum_moved p mwh rows others h)

length_moved : (zone : Zone) (rows others : List Share) (day : ℤ) → IsPermutation rows others
    → length (rows_on zone rows day) ≡ length (rows_on zone others day)
length_moved zone rows others day h =
    let p : Share → Bool = λ row. int_eq (day_at zone row.start) day in
    length-filter p rows ∙ sym (sum_by-IsPermutation (λ row. cond (p row) 1 0) rows others h) ∙ sym (length-filter p others)

pub accounts_ignore_order : AccountsIgnoreOrder
accounts_ignore_order zone rows others accounts h moved =
    record {
      in_order = h.in_order;
      complete = λ day.
          let same = length_moved zone rows others day moved in (
            λ there. omega (arith, same, (h.complete day).0 there),
            λ some. (h.complete day).1 (omega (arith, same, some)),
          );
      each = All-weaker (λ (a : DayAccount). a ≡ account_on zone rows a.day) (λ (a : DayAccount). a ≡ account_on zone others a.day)
          (λ a is. is ∙ account_moved zone rows others a.day moved) accounts h.each;
    }
