-- Lemmas about the energy report without options. The text of this report equals that of the list
-- of days that the crate `interval_core` defines.
use Rattle.std.proofs.Common.{◌≡◌, ◌-◌, ◌^◌, ◌≤◌, false, List, [], ◌∷◌, ◌++◌, map, length, refl, ◌∙◌, ap, arith}
use Rattle.std.specs.Prelude.{◌<ℤ◌, All, min}
use Rattle.std.specs.List.{flat_map, join_by}
use Rattle.std.specs.Ordering.{int_eq}
use Rattle.std.proofs.Math.Nat.{min-eq_left}
use Rattle.std.proofs.lemmas.Bool.{false_from_ne_true}
use Rattle.std.proofs.lemmas.List.{length-map}
use Rattle.std.proofs.lemmas.List.Elements.{All-head, All-tail}
use Rattle.jiff_core.proofs.SignedLemmas.{signed_arith}
use Rattle.jiff.specs.Words.{epoch_day}
use Rattle.interval_core.specs.Days.{DayAccount, account_of, AreInOrder}
use Rattle.interval_core.specs.Lines.{days_text, end_line}
use Rattle.interval_core.specs.Report.{day_line}
use Rattle.interval_core.specs.declared.totals.DayTotal.{DayTotal}
use Rattle.energy_report.specs.declared.form.Period.TheVariants as period
use Rattle.energy_report.specs.Laws.{IsHeld}
use Rattle.interval_core.specs.Ranges.{all_days, days_in}
use Rattle.energy_report.specs.Rows.{row_of, rows_by, shown, shown_rows}
use Rattle.energy_report.specs.Texts.{report_text, row_text, rows_text}
use Rattle.energy_report.specs.Words.{plain_form}
use Rattle.energy_report.proofs.PeriodLemmas.{equal}

all_there : (days : List DayTotal) → days_in all_days days ≡ days
all_there [] = refl
all_there (total ∷ days) = ap (λ more. total ∷ more) (all_there days)

alone : (days : List DayTotal) → AreInOrder (map account_of days) → rows_by period.Day days ≡ map row_of days
alone [] order = refl
alone (total ∷ []) order = refl
alone (total ∷ next ∷ days) order =
    let P : DayAccount → Type 0 = λ account. epoch_day total.day <ℤ account.day in
    let later : epoch_day total.day <ℤ epoch_day next.day = All-head P (account_of next) (map account_of days) order.0 in
    let other : int_eq (epoch_day total.day) (epoch_day next.day) ≡ false =
    false_from_ne_true (int_eq (epoch_day total.day) (epoch_day next.day))
    (λ same. let met = equal (epoch_day total.day) (epoch_day next.day) same in absurd (omega (arith, signed_arith, later, met))) in
    rw (alone (next ∷ days) order.1, other) refl

held : (days : List DayTotal) → All IsHeld days → map shown (map row_of days) ≡ map row_of days
held [] all = refl
held (total ∷ days) all =
    let here = All-head IsHeld total days all in
    let count : min total.count (2 ^ 64 - 1) ≡ total.count = min-eq_left (let fits : total.count ≤ 2 ^ 64 - 1 = omega (arith, here.0) in fits) in
    let mwh : min total.mwh (2 ^ 128 - 1) ≡ total.mwh = min-eq_left (let fits : total.mwh ≤ 2 ^ 128 - 1 = omega (arith, here.1) in fits) in
    rw (count, mwh, held days (All-tail IsHeld total days all)) refl

lines : (days : List DayTotal) → flat_map (λ row. row_text plain_form row) (map row_of days) ≡ flat_map day_line days
lines [] = refl
lines (total ∷ days) = ap (λ more. day_line total ++ more) (lines days)

joined_lines : (days : List DayTotal) → join_by (row_text plain_form) [] (map row_of days) ≡ flat_map day_line days
joined_lines [] = refl
joined_lines (total ∷ days) = ap (λ more. day_line total ++ more) (lines days)

pub plain : (days : List DayTotal) → AreInOrder (map account_of days) → All IsHeld days → report_text plain_form days ≡ days_text days
plain days order all =
    let rows : shown_rows plain_form days ≡ map row_of days =
    ap (λ those. map shown (rows_by period.Day those)) (all_there days) ∙ ap (map shown) (alone days order) ∙ held days all in
    ap (rows_text plain_form) rows
    ∙ ap (λ text. text ++ end_line (length (map row_of days))) (joined_lines days)
    ∙ ap (λ n. flat_map day_line days ++ end_line n) (length-map days row_of)
