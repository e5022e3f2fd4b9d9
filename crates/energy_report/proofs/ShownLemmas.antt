-- Lemmas: if the counts and energies of all report rows add up to values that fit in their integer
-- types, then every row is printed with its exact values.
use Rattle.std.proofs.Common.{◌≡◌, ◌-◌, ◌<◌, ◌≤◌, ◌^◌, List, [], ◌∷◌, map, refl, arith}
use Rattle.std.specs.Prelude.{min}
use Rattle.std.proofs.Math.Nat.{min-eq_left}
use Rattle.std.proofs.lemmas.List.Sums.{sum_by-cons}
use Rattle.interval_core.specs.declared.totals.DayTotal.{DayTotal}
use Rattle.energy_report.specs.declared.form.ReportForm.{ReportForm}
use Rattle.energy_report.specs.declared.row.Row.{Row}
use Rattle.energy_report.specs.Laws.{energy_of_days, energy_of_rows, intervals_of_days, intervals_of_rows}
use Rattle.interval_core.specs.Ranges.{days_in}
use Rattle.energy_report.specs.Rows.{rows_in, shown, shown_rows}
use Rattle.energy_report.proofs.SumLemmas.{sums}

-- Suppose that the interval counts of all report rows add up to less than 2^64, and the energies to
-- less than 2^128 mWh. Then the printed rows are the rows themselves, with nothing cut off at these
-- limits.
fits : (rows : List Row) → intervals_of_rows rows < 2 ^ 64 → energy_of_rows rows < 2 ^ 128 → map shown rows ≡ rows
fits [] few small = refl
fits (row ∷ rows) few small =
    let counts = sum_by-cons (λ (r : Row). r.count) row rows in
    let energies = sum_by-cons (λ (r : Row). r.mwh) row rows in
    let count : min row.count (2 ^ 64 - 1) ≡ row.count = min-eq_left (let le : row.count ≤ 2 ^ 64 - 1 = omega (arith, counts, few) in le) in
    let mwh : min row.mwh (2 ^ 128 - 1) ≡ row.mwh = min-eq_left (let le : row.mwh ≤ 2 ^ 128 - 1 = omega (arith, energies, small) in le) in
    rw (count, mwh, fits rows (omega (arith, counts, few)) (omega (arith, energies, small))) refl

pub as_they_are : (form : ReportForm) (days : List DayTotal) → intervals_of_days (days_in form.range days) < 2 ^ 64
    → energy_of_days (days_in form.range days) < 2 ^ 128 → shown_rows form days ≡ rows_in form days
as_they_are form days few small =
    let counts = sums (λ row. row.count) (λ total. total.count) (λ row next. refl) (λ total. refl) form.period (days_in form.range days) in
    let energies = sums (λ row. row.mwh) (λ total. total.mwh) (λ row next. refl) (λ total. refl) form.period (days_in form.range days) in
    fits (rows_in form days) (omega (arith, counts, few)) (omega (arith, energies, small))
