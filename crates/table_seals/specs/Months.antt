-- Defines the energy of a meter by calendar month, as it follows from the meter's entries.
use Rattle.std.specs.Prelude.{◌≡◌, ℕ, List, map}
use Rattle.interval_core.specs.declared.shares.Share.{Share}
use Rattle.interval_core.specs.declared.totals.DayTotal.{DayTotal}
use Rattle.interval_core.specs.declared.zone.Zone.{Zone}
use Rattle.interval_core.specs.Days.{AreAccounts, account_of}
use Rattle.energy_report.specs.declared.form.Period.TheVariants as period
use Rattle.energy_report.specs.declared.row.Row.{Row}
use Rattle.energy_report.specs.Rows.{rows_by}
use Rattle.energy_report.specs.Texts.{period_text}
use Rattle.meter_journal.specs.declared.audit.rows.TableRow.{TableRow}
use Rattle.table_audit.specs.Booked.{IsBooked}
use Rattle.table_seals.specs.Sealed.{SealedMonth}

-- The calendar month and the energy of a row of a monthly report.
abbrev pub month_of : Row → SealedMonth
month_of row = record { month = period_text period.Month row.first; mwh = row.mwh }

-- States that `months` has the energy of the given quarter hours by calendar month, as in a monthly
-- report. A quarter hour belongs to the month in which it begins in the time zone.
pub record AreMonths (zone : Zone) (shares : List Share) (months : List SealedMonth) : Type 0 where
  pub days : List DayTotal
  pub accounts : AreAccounts zone shares (map account_of days)
  pub months_are : months ≡ map month_of (rows_by period.Month days)

-- States that `months` has the energy of a meter by calendar month, as it follows from the entries
-- `entries`. They are in order, with the opening (the first entry) first.
pub record HasMonths (zone : Zone) (range ceiling : ℕ) (entries : List TableRow)
    (months : List SealedMonth) : Type 0 where
  pub shares : List Share
  pub booked : IsBooked range ceiling entries shares
  pub are : AreMonths zone shares months
