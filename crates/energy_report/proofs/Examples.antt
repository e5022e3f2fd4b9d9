-- Worked examples of reports, days, periods and energies, computed from the definitions.
use Rattle.std.proofs.Common.{◌≡◌, ℕ, true, false, List, [], ◌∷◌, Some, refl, arith}
use Rattle.std.specs.Prelude.{pos, ◌+ℤ◌, ◌<ℤ◌, codes}
use Rattle.std.specs.Cmp.{int_ranks}
use Rattle.std.specs.Fmt.{digits}
use Rattle.std.specs.Int.{IsInRange}
use Rattle.std.specs.Ordering.{int_cmp}
use Rattle.std.proofs.lemmas.Bool.{and_left, and_right}
use Rattle.std.proofs.lemmas.Int.{by_lt_z}
use Rattle.jiff_core.specs.Calendar.{IsDate, days_from_civil, day_count, days_in_month, days_of_months}
use Rattle.jiff_core.specs.declared.civil.date.Date.{Date}
use Rattle.jiff_core.proofs.SignedLemmas.{signed_arith}
use Rattle.jiff.specs.Words.{epoch_day}
use Rattle.interval_core.specs.declared.totals.DayTotal.{DayTotal}
use Rattle.energy_report.specs.declared.form.EnergyUnit.{EnergyUnit}
use Rattle.energy_report.specs.declared.form.EnergyUnit.TheVariants.{KilowattHours, MilliwattHours}
use Rattle.energy_report.specs.declared.form.Format.{Format}
use Rattle.energy_report.specs.declared.form.Format.TheVariants.{Text, Csv, Json}
use Rattle.energy_report.specs.declared.form.Period.TheVariants as period
use Rattle.energy_report.specs.declared.form.ReportForm.{ReportForm}
use Rattle.energy_report.specs.Days.{IsReadAs, Spells}
use Rattle.energy_report.specs.Laws.{range}
use Rattle.energy_report.specs.Periods.{is_same}
use Rattle.interval_core.specs.Ranges.{all_days, begins_by, ends_after, is_in}
use Rattle.energy_report.specs.Rows.{joined, row_of, rows_by, shown}
use Rattle.energy_report.specs.Texts.{energy_text, report_text}
use Rattle.energy_report.proofs.DayLemmas.{unread}
use Rattle.energy_report.proofs.RangeLemmas.{not_le, not_lt, of_le, of_lt}

-- Examples of the texts of energies in kWh: 0 mWh, 1 mWh, the largest energy below 1 kWh, 1 kWh,
-- and the largest energy of 128 bits.

no_energy : energy_text KilowattHours 0 ≡ codes "0.000000"
unfolding digits
no_energy = refl

least_energy : energy_text KilowattHours 1 ≡ codes "0.000001"
unfolding digits
least_energy = refl

below_one_kwh : energy_text KilowattHours 999999 ≡ codes "0.999999"
unfolding digits
below_one_kwh = refl

one_kwh : energy_text KilowattHours 1000000 ≡ codes "1.000000"
unfolding digits
one_kwh = refl

in_mwh : energy_text MilliwattHours 1000000 ≡ codes "1000000"
unfolding digits
in_mwh = refl

greatest_energy : energy_text KilowattHours 340282366920938463463374607431768211455 ≡ codes "340282366920938463463374607431768.211455"
unfolding digits
greatest_energy = refl

-- After 1 mWh is added to a report row with 2^128 - 1 mWh, the printed energy is still 2^128 - 1
-- mWh.
the_greatest_stays : (a b : DayTotal) → a.mwh ≡ 340282366920938463463374607431768211455 → b.mwh ≡ 1
    → (shown (joined (row_of a) (row_of b))).mwh ≡ 340282366920938463463374607431768211455
the_greatest_stays a b greatest one = rw (greatest, one) refl

-- Examples of texts that represent days of the calendar, and of texts of days that the calendar
-- does not have.

leap_day : (day : Date) → day.year ≡ pos 2024 → day.month ≡ 2 → day.day ≡ 29 → IsReadAs (codes "2024-02-29") (Some day)
leap_day day year month date = rw (year, month, date) (refl, omega (arith, signed_arith))

first_day : (day : Date) → day.year ≡ pos 0 → day.month ≡ 1 → day.day ≡ 1 → IsReadAs (codes "0000-01-01") (Some day)
first_day day year month date = rw (year, month, date) (refl, omega (arith, signed_arith))

last_day : (day : Date) → day.year ≡ pos 9999 → day.month ≡ 12 → day.day ≡ 31 → IsReadAs (codes "9999-12-31") (Some day)
last_day day year month date = rw (year, month, date) (refl, omega (arith, signed_arith))

no_leap_day : (day : Date) → ¬ Spells (codes "2023-02-29") day
no_leap_day = unread (codes "2023-02-29") (record { century = 20; year = 23; month = 2; day = 29 })
    (record { century = omega arith; year = omega arith; month = omega arith; day = omega arith }, refl)
    (λ (has : IsDate (pos 2023) (pos 2) (pos 29)). omega (arith, signed_arith, has.2.1))

no_month : (day : Date) → ¬ Spells (codes "2024-13-01") day
no_month = unread (codes "2024-13-01") (record { century = 20; year = 24; month = 13; day = 1 })
    (record { century = omega arith; year = omega arith; month = omega arith; day = omega arith }, refl)
    (λ (has : IsDate (pos 2024) (pos 13) (pos 1)). omega (arith, signed_arith, has.1.1))

-- Examples of ranges of days. A range contains its first day, and does not contain the day that is
-- given as its end.

the_first_day_is_in : (from till : Date) → epoch_day from <ℤ epoch_day till → is_in (range (Some from) (Some till)) from ≡ true
the_first_day_is_in from till forward =
    let begins : begins_by (Some from) from ≡ true = of_le (int_cmp (epoch_day from) (epoch_day from)) (epoch_day from) (epoch_day from) (int_ranks (epoch_day from) (epoch_day from)) (omega (arith, signed_arith)) in
    let ends : ends_after (Some till) from ≡ true = of_lt (int_cmp (epoch_day from) (epoch_day till)) (epoch_day from) (epoch_day till) (int_ranks (epoch_day from) (epoch_day till)) forward in
    rw (begins, ends) refl

the_day_of_the_end_is_not : (from till : Date) → is_in (range (Some from) (Some till)) till ≡ false
the_day_of_the_end_is_not from till = and_right (begins_by (Some from) till) (ends_after (Some till) till)
    (not_lt (int_cmp (epoch_day till) (epoch_day till)) (epoch_day till) (epoch_day till) (int_ranks (epoch_day till) (epoch_day till)) (omega (arith, signed_arith)))

from_till_itself : (cut day : Date) → is_in (range (Some cut) (Some cut)) day ≡ false
from_till_itself cut day = by_lt_z (epoch_day day) (epoch_day cut)
    (λ lt. and_left (begins_by (Some cut) day) (ends_after (Some cut) day)
    (not_le (int_cmp (epoch_day cut) (epoch_day day)) (epoch_day cut) (epoch_day day) (int_ranks (epoch_day cut) (epoch_day day)) lt))
    (λ ge. and_right (begins_by (Some cut) day) (ends_after (Some cut) day)
    (not_lt (int_cmp (epoch_day day) (epoch_day cut)) (epoch_day day) (epoch_day cut) (int_ranks (epoch_day day) (epoch_day cut)) ge))

no_rows : rows_by period.Year [] ≡ []
no_rows = refl

-- Examples of the lengths of months: the first days of consecutive months are 28, 29, 30 or 31 days
-- apart.

february : (from till : Date) → from.year ≡ pos 2023 → from.month ≡ 2 → from.day ≡ 1
    → till.year ≡ pos 2023 → till.month ≡ 3 → till.day ≡ 1 → epoch_day till ≡ epoch_day from +ℤ pos 28
unfolding days_from_civil day_count days_of_months
february from till y m d y' m' d' = rw (y, m, d, y', m', d') (omega (arith, signed_arith))

leap_february : (from till : Date) → from.year ≡ pos 2024 → from.month ≡ 2 → from.day ≡ 1
    → till.year ≡ pos 2024 → till.month ≡ 3 → till.day ≡ 1 → epoch_day till ≡ epoch_day from +ℤ pos 29
unfolding days_from_civil day_count days_of_months
leap_february from till y m d y' m' d' = rw (y, m, d, y', m', d') (omega (arith, signed_arith))

april : (from till : Date) → from.year ≡ pos 2024 → from.month ≡ 4 → from.day ≡ 1
    → till.year ≡ pos 2024 → till.month ≡ 5 → till.day ≡ 1 → epoch_day till ≡ epoch_day from +ℤ pos 30
unfolding days_from_civil day_count days_of_months
april from till y m d y' m' d' = rw (y, m, d, y', m', d') (omega (arith, signed_arith))

october : (from till : Date) → from.year ≡ pos 2024 → from.month ≡ 10 → from.day ≡ 1
    → till.year ≡ pos 2024 → till.month ≡ 11 → till.day ≡ 1 → epoch_day till ≡ epoch_day from +ℤ pos 31
unfolding days_from_civil day_count days_of_months
october from till y m d y' m' d' = rw (y, m, d, y', m', d') (omega (arith, signed_arith))

-- Examples of consecutive days in different periods: 29 February and 1 March, 31 December and 1
-- January.

leap_day_ends_its_month : (last first : Date) → last.year ≡ pos 2024 → last.month ≡ 2 → last.day ≡ 29
    → first.year ≡ pos 2024 → first.month ≡ 3 → first.day ≡ 1 → is_same period.Month last first ≡ false
leap_day_ends_its_month last first year month day next_year next_month next_day =
    rw (year, month, next_year, next_month) refl

leap_day_is_of_its_year : (last first : Date) → last.year ≡ pos 2024 → first.year ≡ pos 2024 → is_same period.Year last first ≡ true
leap_day_is_of_its_year last first year next_year = rw (year, next_year) refl

new_year_is_another : (last first : Date) → last.year ≡ pos 2023 → first.year ≡ pos 2024 → is_same period.Year last first ≡ false
new_year_is_another last first year next_year = rw (year, next_year) refl

-- If two days are in one month and a third day is in the next month, then a report by month has two
-- rows.
rows_of_months : (a b c : DayTotal) → is_same period.Month a.day b.day ≡ true → is_same period.Month b.day c.day ≡ false
    → rows_by period.Month (a ∷ b ∷ c ∷ []) ≡ joined (row_of a) (row_of b) ∷ row_of c ∷ []
rows_of_months a b c same other = rw (other, same) refl

-- Examples of the texts of reports on 28 February, 29 February and 1 March 2024.

abbrev of_months : EnergyUnit → Format → ReportForm
of_months unit format = record { range = all_days; period = period.Month; unit = unit; format = format }

abbrev in_2024 : (month day : ℕ) → IsInRange 1 12 month → IsInRange 1 (days_in_month (pos 2024) month) day → Date
in_2024 month day month_in day_in = record {
  year = pos 2024;
  month = month;
  day = day;
  year_in = (omega (arith, signed_arith), omega (arith, signed_arith));
  month_in = month_in;
  day_in = day_in;
}

abbrev days : List DayTotal
days =
    record { day = in_2024 2 28 (omega arith, omega arith) (omega arith, omega arith); count = 96; mwh = 1 }
    ∷ record { day = in_2024 2 29 (omega arith, omega arith) (omega arith, omega arith); count = 96; mwh = 2 }
    ∷ record { day = in_2024 3 1 (omega arith, omega arith) (omega arith, omega arith); count = 100; mwh = 1000000 }
    ∷ []

as_text : report_text (of_months KilowattHours Text) days
    ≡ codes "2024-02  192                 0.000003\n2024-03  100                 1.000000\nend 2\n"
unfolding digits
as_text = refl

as_table : report_text (of_months KilowattHours Csv) days
    ≡ codes "month,energy_kwh\r\n2024-02,0.000003\r\n2024-03,1.000000\r\n"
unfolding digits
as_table = refl

as_objects : report_text (of_months MilliwattHours Json) days
    ≡ codes "[{\"month\":\"2024-02\",\"mwh\":\"3\"},\n{\"month\":\"2024-03\",\"mwh\":\"1000000\"}]\n"
unfolding digits
as_objects = refl

no_day_as_text : report_text (of_months KilowattHours Text) [] ≡ codes "end 0\n"
unfolding digits
no_day_as_text = refl

no_day_as_table : report_text (of_months KilowattHours Csv) [] ≡ codes "month,energy_kwh\r\n"
no_day_as_table = refl

no_day_as_objects : report_text (of_months KilowattHours Json) [] ≡ codes "[]\n"
no_day_as_objects = refl
