-- Lemmas: if the days of a report are in order, each row has the energy of all days of its period,
-- and no two rows are of the same period.
use Rattle.std.proofs.Common.{◌≡◌, ◌+◌, Bool, true, false, cond, List, [], ◌∷◌, map, refl, sym, ◌∙◌, ap, arith}
use Rattle.std.specs.Prelude.{ℤ, pos, ◌<ℤ◌, ◌&&◌, All, filter}
use Rattle.std.specs.Ordering.{int_eq}
use Rattle.std.proofs.lemmas.Bool.{false_from_ne_true}
use Rattle.std.proofs.lemmas.List.Elements.{All-cons, All-head, All-nil, All-tail, All-weaker}
use Rattle.std.proofs.lemmas.List.Sums.{sum_by-cons}
use Rattle.jiff_core.specs.declared.civil.date.Date.{Date}
use Rattle.jiff_core.proofs.SignedLemmas.{signed_arith}
use Rattle.jiff.specs.Words.{epoch_day}
use Rattle.interval_core.specs.Days.{DayAccount, account_of, AreInOrder}
use Rattle.interval_core.specs.declared.totals.DayTotal.{DayTotal}
use Rattle.energy_report.specs.declared.form.Period.{Period}
use Rattle.energy_report.specs.declared.row.Row.{Row}
use Rattle.energy_report.specs.Laws.{AreApart, HasItsDays, days_of_row, energy_of_days}
use Rattle.energy_report.specs.Periods.{is_same}
use Rattle.energy_report.specs.Rows.{before, joined, row_of, rows_by}
use Rattle.energy_report.specs.declared.form.Period.TheVariants as period
use Rattle.energy_report.proofs.PeriodLemmas.{between, equals, same-flipped, same-like}

-- True if the date of a day has the property `P`.
abbrev OfDay : (Date → Type 0) → DayTotal → Type 0
OfDay P total = P total.day

abbrev OfRow : (Date → Type 0) → Row → Type 0
OfRow P row = P row.first

-- If the first days of two report rows have a property, then the first day of the merged row also
-- has the property.
firsts-before : (P : Date → Type 0) (b : Bool) (row next : Row) (rows : List Row) → P row.first → All (OfRow P) (next ∷ rows)
    → All (OfRow P) (cond b (joined row next ∷ rows) (row ∷ next ∷ rows))
firsts-before P true row next rows here all = All-cons (OfRow P) (joined row next) rows here (All-tail (OfRow P) next rows all)
firsts-before P false row next rows here all = All-cons (OfRow P) row (next ∷ rows) here all

first-before : (P : Date → Type 0) (p : Period) (row : Row) (rows : List Row) → P row.first → All (OfRow P) rows → All (OfRow P) (before p row rows)
first-before P p row [] here all = All-cons (OfRow P) row [] here (All-nil (OfRow P))
first-before P p row (next ∷ rows) here all = firsts-before P (is_same p row.first next.first) row next rows here all

firsts : (P : Date → Type 0) (p : Period) (days : List DayTotal) → All (OfDay P) days → All (OfRow P) (rows_by p days)
firsts P p [] all = All-nil (OfRow P)
firsts P p (total ∷ days) all =
    first-before P p (row_of total) (rows_by p days) (All-head (OfDay P) total days all) (firsts P p days (All-tail (OfDay P) total days all))

-- If a day is in a period, then adding the day to a list adds its energy to the energy of the
-- period's days. Otherwise this energy is unchanged.
with_day : (b : Bool) (total : DayTotal) (days : List DayTotal) → energy_of_days (cond b (total ∷ days) days) ≡ cond b total.mwh 0 + energy_of_days days
with_day true total days = sum_by-cons (λ (day : DayTotal). day.mwh) total days
with_day false total days = omega arith

-- If two days are of the same period (day, month or year), then the days of a list in the first
-- day's period are those in the second day's period.
days-like : (p : Period) (a b : Date) (days : List DayTotal) → is_same p a b ≡ true
    → filter (λ total. is_same p a total.day) days ≡ filter (λ total. is_same p b total.day) days
days-like p a b [] same = refl
days-like p a b (total ∷ days) same =
    ap (λ v. cond v (total ∷ filter (λ d. is_same p a d.day) days) (filter (λ d. is_same p a d.day) days)) (same-like p a b total.day same)
    ∙ ap (λ more. cond (is_same p b total.day) (total ∷ more) more) (days-like p a b days same)

-- If no day of a list is in a period (day, month or year), then the energy of the period's days is
-- 0.
none_of : (p : Period) (a : Date) (days : List DayTotal) → All (λ total. is_same p a total.day ≡ false) days
    → energy_of_days (filter (λ total. is_same p a total.day) days) ≡ 0
none_of p a [] all = refl
none_of p a (total ∷ days) all =
    let P : DayTotal → Type 0 = λ d. is_same p a d.day ≡ false in
    ap (λ v. energy_of_days (cond v (total ∷ filter (λ d. is_same p a d.day) days) (filter (λ d. is_same p a d.day) days))) (All-head P total days all)
    ∙ none_of p a days (All-tail P total days all)

itself : (p : Period) (a : Date) → is_same p a a ≡ true
itself period.Day a = equals (epoch_day a) (epoch_day a) refl
itself period.Month a =
    ap (λ v. v && int_eq (pos a.month) (pos a.month)) (equals a.year a.year refl) ∙ equals (pos a.month) (pos a.month) refl
itself period.Year a = equals a.year a.year refl

-- If a day outside the periods of all report rows is added to the days, then each row still has the
-- energy of all its days.
kept_days : (p : Period) (total : DayTotal) (days : List DayTotal) (rows : List Row) → All (λ row. is_same p row.first total.day ≡ false) rows
    → All (HasItsDays p days) rows → All (HasItsDays p (total ∷ days)) rows
kept_days p total days [] apart all = All-nil (HasItsDays p (total ∷ days))
kept_days p total days (row ∷ rows) apart all =
    let P : Row → Type 0 = λ r. is_same p r.first total.day ≡ false in
    let here : HasItsDays p (total ∷ days) row =
    All-head (HasItsDays p days) row rows all
    ∙ sym (ap (λ v. energy_of_days (cond v (total ∷ days_of_row p row days) (days_of_row p row days))) (All-head P row rows apart)) in
    All-cons (HasItsDays p (total ∷ days)) row rows here
    (kept_days p total days rows (All-tail P row rows apart) (All-tail (HasItsDays p days) row rows all))

abbrev Far : Period → Date → Row → Type 0
Far p a later = is_same p a later.first ≡ false

-- True if each report row has the energy of all days of its period, and no two rows are of the same
-- period.
abbrev AreWhole : Period → List DayTotal → List Row → Type 0
AreWhole p days rows = All (HasItsDays p days) rows × AreApart p rows

added : (p : Period) (total : DayTotal) (days : List DayTotal) (next : Row) (rows : List Row) → is_same p total.day next.first ≡ true
    → AreWhole p days (next ∷ rows) → AreWhole p (total ∷ days) (joined (row_of total) next ∷ rows)
added p total days next rows same whole =
    let far : All (Far p total.day) rows =
    All-weaker (Far p next.first) (Far p total.day) (λ row e. same-like p total.day next.first row.first same ∙ e) rows whole.1.0 in
    let near : All (λ row. is_same p row.first total.day ≡ false) rows =
    All-weaker (Far p total.day) (λ row. is_same p row.first total.day ≡ false) (λ row e. same-flipped p row.first total.day ∙ e) rows far in
    let here : total.mwh + next.mwh ≡ energy_of_days (days_of_row p (row_of total) (total ∷ days)) =
    ap (λ n. total.mwh + n) (All-head (HasItsDays p days) next rows whole.0 ∙ sym (ap energy_of_days (days-like p total.day next.first days same)))
    ∙ sym (with_day true total (days_of_row p (row_of total) days))
    ∙ sym (ap (λ v. energy_of_days (cond v (total ∷ days_of_row p (row_of total) days) (days_of_row p (row_of total) days))) (itself p total.day)) in (
      All-cons (HasItsDays p (total ∷ days)) (joined (row_of total) next) rows here
          (kept_days p total days rows near (All-tail (HasItsDays p days) next rows whole.0)),
      (far, whole.1.1),
    )

set_apart : (p : Period) (total : DayTotal) (days : List DayTotal) (rows : List Row) → All (λ day. is_same p total.day day.day ≡ false) days
    → All (Far p total.day) rows → AreWhole p days rows → AreWhole p (total ∷ days) (row_of total ∷ rows)
set_apart p total days rows none far whole =
    let near : All (λ row. is_same p row.first total.day ≡ false) rows =
    All-weaker (Far p total.day) (λ row. is_same p row.first total.day ≡ false) (λ row e. same-flipped p row.first total.day ∙ e) rows far in
    let here : total.mwh ≡ energy_of_days (days_of_row p (row_of total) (total ∷ days)) =
    let nothing = none_of p total.day days none in
    let one = with_day true total (days_of_row p (row_of total) days) in
    (omega (arith, nothing, one))
    ∙ sym (ap (λ v. energy_of_days (cond v (total ∷ days_of_row p (row_of total) days) (days_of_row p (row_of total) days))) (itself p total.day)) in (
      All-cons (HasItsDays p (total ∷ days)) (row_of total) rows here (kept_days p total days rows near whole.0),
      (far, whole.1),
    )

-- True if a day is later than the day with the number `day`, counted from 1970-01-01.
abbrev LaterThan : ℤ → DayTotal → Type 0
LaterThan day total = day <ℤ epoch_day total.day

following : (day : ℤ) (days : List DayTotal) → All (λ account. day <ℤ account.day) (map account_of days) → All (LaterThan day) days
following day [] all = All-nil (LaterThan day)
following day (total ∷ days) all =
    let P : DayAccount → Type 0 = λ account. day <ℤ account.day in
    All-cons (LaterThan day) total days (All-head P (account_of total) (map account_of days) all)
    (following day days (All-tail P (account_of total) (map account_of days) all))

-- If a list of days is in order, then all days after a change of period (day, month or year) are
-- outside the earlier period.
all_other : (p : Period) (total next : DayTotal) (days : List DayTotal) → AreInOrder (map account_of (total ∷ next ∷ days))
    → is_same p total.day next.day ≡ false → All (λ day. is_same p total.day day.day ≡ false) (next ∷ days)
all_other p total next days order other =
    let P : DayTotal → Type 0 = λ day. is_same p total.day day.day ≡ false in
    let first : epoch_day total.day <ℤ epoch_day next.day =
    All-head (LaterThan (epoch_day total.day)) next days (following (epoch_day total.day) (next ∷ days) order.0) in
    All-cons P next days other
    (All-weaker (LaterThan (epoch_day next.day)) P
    (λ day later. false_from_ne_true (is_same p total.day day.day)
    (λ same.
    let met = between p total.day next.day day.day (omega (arith, signed_arith, first)) (omega (arith, signed_arith, later)) same in
    let clash : false ≡ true = sym other ∙ met in
    absurd (cc clash)))
    days (following (epoch_day next.day) days order.1.0))

abbrev StartsAt : Date → List Row → Type 0
StartsAt day [] = ⊥
StartsAt day (row ∷ rows) = row.first ≡ day

starts-either : (b : Bool) (row next : Row) (rows : List Row) → StartsAt row.first (cond b (joined row next ∷ rows) (row ∷ next ∷ rows))
starts-either true row next rows = refl
starts-either false row next rows = refl

starts : (p : Period) (row : Row) (rows : List Row) → StartsAt row.first (before p row rows)
starts p row [] = refl
starts p row (next ∷ rows) = starts-either (is_same p row.first next.first) row next rows

one_more : (p : Period) (total : DayTotal) (days : List DayTotal) (next : Row) (rows : List Row) (b : Bool) → is_same p total.day next.first ≡ b
    → (b ≡ false → All (λ day. is_same p total.day day.day ≡ false) days)
    → (b ≡ false → All (Far p total.day) (next ∷ rows))
    → AreWhole p days (next ∷ rows) → AreWhole p (total ∷ days) (cond b (joined (row_of total) next ∷ rows) (row_of total ∷ next ∷ rows))
one_more p total days next rows true same none far whole = added p total days next rows same whole
one_more p total days next rows false same none far whole = set_apart p total days (next ∷ rows) (none refl) (far refl) whole

on_rows : (p : Period) (total next : DayTotal) (days : List DayTotal) (rows : List Row) → StartsAt next.day rows
    → AreInOrder (map account_of (total ∷ next ∷ days))
    → (is_same p total.day next.day ≡ false → All (Far p total.day) rows)
    → AreWhole p (next ∷ days) rows → AreWhole p (total ∷ next ∷ days) (before p (row_of total) rows)
on_rows p total next days [] begins order far whole = absurd begins
on_rows p total next days (row ∷ rows) begins order far whole =
    let here : is_same p total.day row.first ≡ is_same p total.day next.day = ap (λ day. is_same p total.day day) begins in
    one_more p total (next ∷ days) row rows (is_same p total.day row.first) refl
    (λ other. all_other p total next days order (sym here ∙ other)) (λ other. far (sym here ∙ other)) whole

pub whole : (p : Period) (days : List DayTotal) → AreInOrder (map account_of days) → AreWhole p days (rows_by p days)
whole p [] order = (All-nil (HasItsDays p []), tt)
whole p (total ∷ []) order =
    set_apart p total [] [] (All-nil (λ (day : DayTotal). is_same p total.day day.day ≡ false)) (All-nil (Far p total.day))
    (All-nil (HasItsDays p []), tt)
whole p (total ∷ next ∷ days) order =
    on_rows p total next days (rows_by p (next ∷ days)) (starts p (row_of next) (rows_by p days)) order
    (λ other. firsts (λ day. is_same p total.day day ≡ false) p (next ∷ days) (all_other p total next days order other))
    (whole p (next ∷ days) order.1)
