-- Lemmas: one more day changes only the end of a report's rows. The day is added to the last row,
-- or begins a new row.
use Rattle.std.proofs.Common.{◌≡◌, ℕ, suc, ◌+◌, ◌-◌, ◌≤◌, ◌^◌, Bool, true, false, cond, List, [], ◌∷◌, ◌++◌, length, refl, sym, ◌∙◌, ap, add_assoc, append-nil, arith, inl, inr}
use Rattle.std.specs.Prelude.{filter, min}
use Rattle.std.proofs.Math.Nat.{min-eq_left, min-eq_right}
use Rattle.std.proofs.lemmas.Bool.{cases_lt}
use Rattle.std.proofs.lemmas.List.Elements.{filter-append}
use Rattle.interval_core.specs.declared.totals.DayTotal.{DayTotal}
use Rattle.energy_report.specs.declared.form.Period.{Period}
use Rattle.energy_report.specs.declared.form.ReportForm.{ReportForm}
use Rattle.energy_report.specs.declared.row.Row.{Row}
use Rattle.energy_report.specs.Periods.{is_same}
use Rattle.interval_core.specs.Ranges.{days_in, is_in}
use Rattle.energy_report.specs.Rows.{before, joined, row_of, rows_by, rows_in, shown}
use Rattle.energy_report.proofs.PeriodLemmas.{same-like}

-- The rows of a report after one more day. A day of the last row's period is added to this row. Any
-- other day begins a new row.
abbrev pub after : Period → List Row → DayTotal → List Row
after p [] total = row_of total ∷ []
after p (row ∷ []) total = cond (is_same p row.first total.day) (joined row (row_of total) ∷ []) (row ∷ row_of total ∷ [])
after p (row ∷ next ∷ rows) total = row ∷ after p (next ∷ rows) total

regroup : (a b c : Row) → joined a (joined b c) ≡ joined (joined a b) c
regroup a b c =
    ap (λ n. record { first = a.first; count = n; mwh = a.mwh + (b.mwh + c.mwh) }) (sym (add_assoc a.count b.count c.count))
    ∙ ap (λ n. record { first = a.first; count = a.count + b.count + c.count; mwh = n }) (sym (add_assoc a.mwh b.mwh c.mwh))

-- Suppose that a row is added in front of a report's rows, and a day at their end. The result does
-- not depend on which of the two is added first.
three : (p : Period) (r x : Row) (t : DayTotal) (first last : Bool) → is_same p r.first x.first ≡ first → is_same p x.first t.day ≡ last
    → before p r (cond last (joined x (row_of t) ∷ []) (x ∷ row_of t ∷ []))
    ≡ after p (cond first (joined r x ∷ []) (r ∷ x ∷ [])) t
three p r x t true true same met =
    rw (same, same-like p r.first x.first t.day same ∙ met) (ap (λ row. row ∷ []) (regroup r x (row_of t)))
three p r x t true false same apart = rw (same, same-like p r.first x.first t.day same ∙ apart) refl
three p r x t false true other met = rw (other, met) refl
three p r x t false false other apart = rw (other, apart) refl

more_rows : (p : Period) (r x : Row) (t : DayTotal) (y : Row) (rows : List Row) (b : Bool)
    → cond b (joined r x ∷ after p (y ∷ rows) t) (r ∷ x ∷ after p (y ∷ rows) t)
    ≡ after p (cond b (joined r x ∷ y ∷ rows) (r ∷ x ∷ y ∷ rows)) t
more_rows p r x t y rows true = refl
more_rows p r x t y rows false = refl

commute : (p : Period) (r : Row) (rows : List Row) (t : DayTotal) → before p r (after p rows t) ≡ after p (before p r rows) t
commute p r [] t = refl
commute p r (x ∷ []) t = three p r x t (is_same p r.first x.first) (is_same p x.first t.day) refl refl
commute p r (x ∷ y ∷ rows) t = more_rows p r x t y rows (is_same p r.first x.first)

pub rows-push : (p : Period) (days : List DayTotal) (t : DayTotal) → rows_by p (days ++ t ∷ []) ≡ after p (rows_by p days) t
rows-push p [] t = refl
rows-push p (d ∷ days) t = ap (before p (row_of d)) (rows-push p days t) ∙ commute p (row_of d) (rows_by p days) t

-- After a day is added at the end of a report, all rows before the last row are unchanged.
pub after-push : (p : Period) (done : List Row) (row : Row) (more : List Row) (t : DayTotal)
    → after p (done ++ row ∷ more) t ≡ done ++ after p (row ∷ more) t
after-push p [] row more t = refl
after-push p (d ∷ []) row more t = refl
after-push p (d ∷ e ∷ done) row more t = ap (λ rows. d ∷ rows) (after-push p (e ∷ done) row more t)

-- If a day in the range of a report is added to the report's days, it is added to the report's
-- rows. A day outside the range leaves the rows unchanged.
pub with_day : (form : ReportForm) (days : List DayTotal) (t : DayTotal) → is_in form.range t.day ≡ true
    → rows_in form (days ++ t ∷ []) ≡ after form.period (rows_in form days) t
with_day form days t there =
    let test : DayTotal → Bool = λ total. is_in form.range total.day in
    ap (rows_by form.period) (filter-append test days (t ∷ []) ∙ ap (λ v. filter test days ++ cond v (t ∷ []) []) there)
    ∙ rows-push form.period (days_in form.range days) t

pub without_day : (form : ReportForm) (days : List DayTotal) (t : DayTotal) → is_in form.range t.day ≡ false
    → rows_in form (days ++ t ∷ []) ≡ rows_in form days
without_day form days t absent =
    let test : DayTotal → Bool = λ total. is_in form.range total.day in
    ap (rows_by form.period) (filter-append test days (t ∷ []) ∙ ap (λ v. filter test days ++ cond v (t ∷ []) []) absent ∙ append-nil (filter test days))

-- Adding a report row in front of other rows, merged with the next row or not, adds at most one
-- row.

few-either : (b : Bool) (row next : Row) (rows : List Row) → length (cond b (joined row next ∷ rows) (row ∷ next ∷ rows)) ≤ suc (length (next ∷ rows))
few-either true row next rows = omega arith
few-either false row next rows = omega arith

few-before : (p : Period) (row : Row) (rows : List Row) → length (before p row rows) ≤ suc (length rows)
few-before p row [] = omega arith
few-before p row (next ∷ rows) = few-either (is_same p row.first next.first) row next rows

few_rows : (p : Period) (days : List DayTotal) → length (rows_by p days) ≤ length days
few_rows p [] = omega arith
few_rows p (d ∷ days) = omega (arith, few-before p (row_of d) (rows_by p days), few_rows p days)

few-kept : (test : DayTotal → Bool) (b : Bool) (d : DayTotal) (days : List DayTotal) → length (filter test days) ≤ length days
    → length (cond b (d ∷ filter test days) (filter test days)) ≤ suc (length days)
few-kept test true d days few = omega (arith, few)
few-kept test false d days few = omega (arith, few)

few_days : (test : DayTotal → Bool) (days : List DayTotal) → length (filter test days) ≤ length days
few_days test [] = omega arith
few_days test (d ∷ days) = few-kept test (test d) d days (few_days test days)

pub few : (form : ReportForm) (days : List DayTotal) → length (rows_in form days) ≤ length days
few form days =
    omega (arith, few_rows form.period (days_in form.range days), few_days (λ total. is_in form.range total.day) days)

-- Limiting a number to `most` before an addition does not change the result of the addition,
-- limited to `most`.

pub capped : (most a b : ℕ) → min (min a most + b) most ≡ min (a + b) most
capped most a b = elim (cases_lt a most) [
  | inl less ↦ ap (λ n. min (n + b) most) (min-eq_left (let le : a ≤ most = omega (arith, less) in le))
  | inr more ↦ ap (λ n. min (n + b) most) (min-eq_right more) ∙ min-eq_right (omega arith) ∙ sym (min-eq_right (omega (arith, more)))
]

-- Printing limits a report row's interval count to 2^64 - 1 and its energy to 2^128 - 1. If these
-- limits are also applied before a day is added to the row, the printed row is the same.
pub shown-joined : (row : Row) (t : DayTotal) → shown (joined (shown row) (row_of t)) ≡ shown (joined row (row_of t))
shown-joined row t =
    ap (λ n. record { first = row.first; count = n; mwh = min (min row.mwh (2 ^ 128 - 1) + t.mwh) (2 ^ 128 - 1) }) (capped (2 ^ 64 - 1) row.count t.count)
    ∙ ap (λ n. record { first = row.first; count = min (row.count + t.count) (2 ^ 64 - 1); mwh = n }) (capped (2 ^ 128 - 1) row.mwh t.mwh)
