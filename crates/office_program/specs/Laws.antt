-- The theorem on bills. The energies in the statements (reports to check a bill) of an accounting
-- register's meters add up to the energy in the register's report.
use Rattle.std.specs.Prelude.{◌≡◌, ◌<◌, ◌≤◌, ◌^◌, List, map, All, sum_by}
use Rattle.std.specs.List.{flat_map}
use Rattle.interval_core.specs.Days.{account_of, AreAccounts}
use Rattle.interval_core.specs.Ranges.{days_in}
use Rattle.interval_core.specs.declared.day_range.DayRange.{DayRange}
use Rattle.interval_core.specs.declared.limits.TheConstants.{LAST_MOMENT}
use Rattle.interval_core.specs.declared.shares.Share.{Share}
use Rattle.interval_core.specs.declared.totals.DayTotal.{DayTotal}
use Rattle.interval_core.specs.declared.zone.Zone.{Zone}
use Rattle.energy_report.specs.Laws.{energy_of_days}
use Rattle.energy_report.specs.Statements.{energy_within}

-- True if the quarter hour starts at or before the largest supported timestamp. Only such a quarter
-- hour has a civil day.
abbrev pub HasDay : Share → Type 0
HasDay row = row.start ≤ LAST_MOMENT

-- The theorem that on any range of days, the energies in the statements of an accounting register's
-- meters add up to the energy in the register's report.
--
-- The theorem on the sum of the statements of an accounting register's meters assumes three facts.
-- The intervals of the register are those of its meters. Each interval has a civil day. The energy
-- in the register's report is below 2^128 mWh. (A statement is a report on one meter.)
abbrev pub StatementsAddUp : Type 0
StatementsAddUp = (zone : Zone) (range : DayRange) (meters : List (List Share))
    (days : List DayTotal) → let rows = flat_map (λ rows. rows) meters in
    All HasDay rows → AreAccounts zone rows (map account_of days)
    → energy_of_days (days_in range days) < 2 ^ 128
    → sum_by (energy_within zone range) meters ≡ energy_of_days (days_in range days)
