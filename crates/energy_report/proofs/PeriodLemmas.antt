-- Lemmas: each day between two civil days of one period (day, month or year) is in this period, and
-- no day of the period is after its last day.
use Rattle.std.proofs.Common.{◌≡◌, ◌⊎◌, inl, inr, ℕ, true, false, refl, sym, ◌∙◌, ap, arith}
use Rattle.std.specs.Prelude.{ℤ, pos, ◌≤ℤ◌, ◌&&◌, ◌↔◌}
use Rattle.std.specs.Ordering.{int_eq}
use Rattle.std.proofs.lemmas.Bool.{and_parts, false_from_ne_true}
use Rattle.std.proofs.lemmas.Bool.Decides.{Decides-int_eq}
use Rattle.jiff_core.specs.declared.civil.date.Date.{Date}
use Rattle.jiff_core.specs.Calendar.{days_from_civil, days_in_month}
use Rattle.jiff_core.specs.Date.{IsYmd}
use Rattle.jiff_core.proofs.CalendarLemmas.{days_in_month_bounds}
use Rattle.jiff_core.proofs.DateLemmas.{cases_date, days_from_civil-day, epoch_day-lt}
use Rattle.jiff_core.proofs.SignedLemmas.{signed_arith}
use Rattle.jiff.specs.Words.{epoch_day}
use Rattle.energy_report.specs.declared.form.Period.{Period}
use Rattle.energy_report.specs.declared.form.Period.TheVariants as period
use Rattle.energy_report.specs.Periods.{PeriodsEndWithTheirLastDay, is_same, last_day}

pub equal : (a b : ℤ) → int_eq a b ≡ true → a ≡ b
equal a b e = (Decides-int_eq a b).0 e

pub equals : (a b : ℤ) → a ≡ b → int_eq a b ≡ true
equals a b e = (Decides-int_eq a b).1 e

flipped : (a b : ℤ) → int_eq a b ≡ int_eq b a
flipped a b =
    elim (int_eq a b) as (λ v. v ≡ int_eq a b → v ≡ int_eq b a) [
      | true ↦ λ e. sym (equals b a (sym (equal a b (sym e))))
      | false ↦ λ e. sym (false_from_ne_true (int_eq b a) (λ f. let h : false ≡ true = e ∙ equals a b (sym (equal b a f)) in absurd (cc h)))
    ] refl

pub same-flipped : (p : Period) (a b : Date) → is_same p a b ≡ is_same p b a
same-flipped period.Day a b = flipped (epoch_day a) (epoch_day b)
same-flipped period.Month a b =
    ap (λ v. v && int_eq (pos a.month) (pos b.month)) (flipped a.year b.year)
    ∙ ap (λ v. int_eq b.year a.year && v) (flipped (pos a.month) (pos b.month))
same-flipped period.Year a b = flipped a.year b.year

-- If two days are of the same period (day, month or year), then any third day is in the period of
-- both days or of neither.
pub same-like : (p : Period) (a b x : Date) → is_same p a b ≡ true → is_same p a x ≡ is_same p b x
same-like period.Day a b x same = ap (λ day. int_eq day (epoch_day x)) (equal (epoch_day a) (epoch_day b) same)
same-like period.Month a b x same =
    let parts = and_parts (int_eq a.year b.year) (int_eq (pos a.month) (pos b.month)) same in
    ap (λ year. int_eq year x.year && int_eq (pos a.month) (pos x.month)) (equal a.year b.year parts.0)
    ∙ ap (λ month. int_eq b.year x.year && int_eq month (pos x.month)) (equal (pos a.month) (pos b.month) parts.1)
same-like period.Year a b x same = ap (λ year. int_eq year x.year) (equal a.year b.year same)

-- If a day is not before another day, then its year is not less than the other day's year. If the
-- years are equal, its month is not less.
years : (a b : Date) → epoch_day a ≤ℤ epoch_day b → a.year ≤ℤ b.year
years a b le = elim (cases_date a b) [
  | inl (inl year) ↦ omega (arith, signed_arith, year)
  | inl (inr rest) ↦ omega (arith, signed_arith, rest.0)
  | inr (inl late) ↦ let lt = epoch_day-lt b a late in absurd (omega (arith, signed_arith, lt, le))
  | inr (inr same) ↦ omega (arith, signed_arith, same.0)
]

months : (a b : Date) → epoch_day a ≤ℤ epoch_day b → a.year ≡ b.year → pos a.month ≤ℤ pos b.month
months a b le year = elim (cases_date a b) [
  | inl (inl lt) ↦ absurd (omega (arith, signed_arith, lt, year))
  | inl (inr (same, inl month)) ↦ omega (arith, signed_arith, month)
  | inl (inr (same, inr day)) ↦ omega (arith, signed_arith, day.0)
  | inr (inl late) ↦ let lt = epoch_day-lt b a late in absurd (omega (arith, signed_arith, lt, le))
  | inr (inr same) ↦ omega (arith, signed_arith, same.1)
]

-- If a day is between two days of the same period (month or year), then the day is in this period.
pub between : (p : Period) (a b c : Date) → epoch_day a ≤ℤ epoch_day b → epoch_day b ≤ℤ epoch_day c → is_same p a c ≡ true
    → is_same p a b ≡ true
between period.Day a b c first second same =
    let ends = equal (epoch_day a) (epoch_day c) same in
    equals (epoch_day a) (epoch_day b) (omega (arith, signed_arith, first, second, ends))
between period.Month a b c first second same =
    let parts = and_parts (int_eq a.year c.year) (int_eq (pos a.month) (pos c.month)) same in
    let ends = equal a.year c.year parts.0 in
    let month_ends = equal (pos a.month) (pos c.month) parts.1 in
    let year : a.year ≡ b.year = omega (arith, signed_arith, years a b first, years b c second, ends) in
    let next : b.year ≡ c.year = omega (arith, signed_arith, years a b first, years b c second, ends) in
    let month : pos a.month ≡ pos b.month =
    omega (arith, signed_arith, months a b first year, months b c second next, month_ends) in
    ap (λ v. v && int_eq (pos a.month) (pos b.month)) (equals a.year b.year year) ∙ equals (pos a.month) (pos b.month) month
between period.Year a b c first second same =
    let ends = equal a.year c.year same in
    equals a.year b.year (omega (arith, signed_arith, years a b first, years b c second, ends))

-- A date's number of days since 1970-01-01 follows from its year, month and day.
pub day_of_parts : (d : Date) (y : ℤ) (m n : ℕ) → IsYmd y (pos m) (pos n) d → epoch_day d ≡ days_from_civil y m n
day_of_parts d y m n parts =
    let m_is : d.month ≡ m = omega (arith, signed_arith, parts.1) in
    let n_is : d.day ≡ n = omega (arith, signed_arith, parts.2) in
    rw (parts.0, m_is, n_is) refl

-- The last day of the period (day, month or year) that contains a day, as a date.
last_date : Period → Date → Date
last_date period.Day day = day
last_date period.Month day =
    let long = days_in_month_bounds day.year day.month in
    record {
      year = day.year;
      month = day.month;
      day = days_in_month day.year day.month;
      year_in = day.year_in;
      month_in = day.month_in;
      day_in = (omega (arith, long.1), omega arith);
    }
last_date period.Year day =
    record {
      year = day.year;
      month = 12;
      day = 31;
      year_in = day.year_in;
      month_in = (omega arith, omega arith);
      day_in = (omega arith, omega arith);
    }

last_is : (p : Period) (day : Date) → epoch_day (last_date p day) ≡ last_day p day
unfolding last_date
last_is period.Day day = refl
last_is period.Month day = refl
last_is period.Year day = refl

last_same : (p : Period) (day : Date) → is_same p day (last_date p day) ≡ true
unfolding last_date
last_same period.Day day = equals (epoch_day day) (epoch_day day) refl
last_same period.Month day =
    ap (λ v. v && int_eq (pos day.month) (pos day.month)) (equals day.year day.year refl) ∙ equals (pos day.month) (pos day.month) refl
last_same period.Year day = equals day.year day.year refl

-- If a day is in a period (day, month or year), then the day is not after the last day of the
-- period.
up_to_last : (p : Period) (day other : Date) → is_same p day other ≡ true → epoch_day other ≤ℤ epoch_day (last_date p day)
unfolding last_date
up_to_last period.Day day other same =
    let is = equal (epoch_day day) (epoch_day other) same in
    omega (arith, signed_arith, is)
up_to_last period.Month day other same =
    let parts = and_parts (int_eq day.year other.year) (int_eq (pos day.month) (pos other.month)) same in
    let year = equal day.year other.year parts.0 in
    let month : day.month ≡ other.month = omega (arith, signed_arith, equal (pos day.month) (pos other.month) parts.1) in
    let long = days_in_month_bounds other.year other.month in
    let ends = days_from_civil-day other.year other.month other.day (days_in_month other.year other.month) other.day_in.0 (omega (arith, long.1)) in
    let within = other.day_in.1 in
    rw (year, month) (omega (arith, signed_arith, ends, within))
up_to_last period.Year day other same =
    let year = equal day.year other.year same in
    elim (cases_date other (last_date period.Year day)) [
      | inl early ↦ let lt = epoch_day-lt other (last_date period.Year day) early in omega (arith, signed_arith, lt)
      | inr (inl (inl late)) ↦ absurd (omega (arith, signed_arith, late, year))
      | inr (inl (inr (same, inl month))) ↦ absurd (omega (arith, month, other.month_in.1))
      | inr (inl (inr (same, inr rest))) ↦ absurd (omega (arith, rest.0, rest.1, other.day_in.1, (days_in_month_bounds other.year other.month).0))
      | inr (inr is) ↦ rw (is.0, is.1, is.2) (omega (arith, signed_arith))
    ]

pub ends_with_last : PeriodsEndWithTheirLastDay
ends_with_last p day other order = (
  λ same. let late = up_to_last p day other same in omega (arith, signed_arith, late, last_is p day),
  λ early.
      let within : epoch_day other ≤ℤ epoch_day (last_date p day) = omega (arith, signed_arith, early, last_is p day) in
      between p day other (last_date p day) order within (last_same p day),
)
