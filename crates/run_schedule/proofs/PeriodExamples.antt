-- Worked examples of file names with a calendar period, such as `office-2026-11.db`.
use Rattle.std.proofs.Common.{◌≡◌, codes, nat_lt, true, false, refl}
use Rattle.energy_report.specs.declared.form.Period.TheVariants as period
use Rattle.run_schedule.specs.Periods.Led.{rank, reports}
use Rattle.run_schedule.specs.Periods.Names.{file_of, spells}
use Rattle.run_schedule.specs.Periods.Plans.{is_later}

before_the_end : file_of (codes "office.db") (codes "2026-11") ≡ codes "office-2026-11.db"
before_the_end = refl

at_the_end : file_of (codes "/srv/a.db/office") (codes "2026") ≡ codes "/srv/a.db/office-2026"
at_the_end = refl

of_a_short_name : file_of (codes "db") (codes "2026") ≡ codes "db-2026"
of_a_short_name = refl

of_the_end_alone : file_of (codes ".db") (codes "2026") ≡ codes "-2026.db"
of_the_end_alone = refl

first_month : spells period.Month (codes "2026-01") ≡ true
first_month = refl

last_month : spells period.Month (codes "2026-12") ≡ true
last_month = refl

month_0 : spells period.Month (codes "2026-00") ≡ false
month_0 = refl

month_13 : spells period.Month (codes "2026-13") ≡ false
month_13 = refl

a_year : spells period.Year (codes "2026") ≡ true
a_year = refl

a_month_is_no_year : spells period.Year (codes "2026-01") ≡ false
a_month_is_no_year = refl

last_day_of_a_month : spells period.Day (codes "2026-12-31") ≡ true
last_day_of_a_month = refl

day_32 : spells period.Day (codes "2026-12-32") ≡ false
day_32 = refl

-- Examples of which of several file names belongs to the current file, in which the program records
-- energy.

a_later_month_is_led : nat_lt (rank period.Month (codes "2026-11")) (rank period.Month (codes "2026-12")) ≡ true
a_later_month_is_led = refl

a_later_year_is_led : nat_lt (rank period.Month (codes "2026-12")) (rank period.Month (codes "2027-01")) ≡ true
a_later_year_is_led = refl

a_run_by_months_goes_on_in_a_month_of_the_year : nat_lt (rank period.Month (codes "2027")) (rank period.Month (codes "2027-01")) ≡ true
a_run_by_months_goes_on_in_a_month_of_the_year = refl

a_run_by_years_goes_on_in_the_year_of_a_month : nat_lt (rank period.Year (codes "2027-12")) (rank period.Year (codes "2027")) ≡ true
a_run_by_years_goes_on_in_the_year_of_a_month = refl

a_run_by_months_goes_on_in_a_later_year : nat_lt (rank period.Month (codes "2026-12")) (rank period.Month (codes "2027")) ≡ true
a_run_by_months_goes_on_in_a_later_year = refl

a_run_by_years_goes_on_in_a_month_of_a_later_year : nat_lt (rank period.Year (codes "2026")) (rank period.Year (codes "2027-01")) ≡ true
a_run_by_years_goes_on_in_a_month_of_a_later_year = refl

days_are_of_no_run_by_months : reports period.Month (codes "2026-11-25") ≡ false
days_are_of_no_run_by_months = refl

a_month_is_not_later_than_its_year : is_later (codes "2026-11") (codes "2026") ≡ false
a_month_is_not_later_than_its_year = refl

a_year_is_not_later_than_its_month : is_later (codes "2026") (codes "2026-11") ≡ false
a_year_is_not_later_than_its_month = refl

a_month_after_new_year_is_later : is_later (codes "2027-01") (codes "2026-12") ≡ true
a_month_after_new_year_is_later = refl

a_year_is_later_than_a_month_before : is_later (codes "2027") (codes "2026-12") ≡ true
a_year_is_later_than_a_month_before = refl
