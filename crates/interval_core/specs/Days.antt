-- The energy of interval rows (energies of quarter hours), added up by civil day. The rows belong
-- to one accounting register (a named energy counter), whose meters may have been replaced over
-- time.
use Rattle.std.specs.Prelude.{◌≡◌, ◌↔◌, ℕ, ℤ, ◌+◌, ◌<◌, ◌<ℤ◌, ◌==◌, if◌then◌else◌, List, [], ◌∷◌, map, filter, length, All, Contains}
use Rattle.std.specs.List.{list_any}
use Rattle.std.specs.List.Sorted.{IsPermutation}
use Rattle.std.specs.Ordering.{int_eq}
use Rattle.jiff.specs.Words.{epoch_day}
use Rattle.interval_core.specs.declared.shares.Share.{Share}
use Rattle.interval_core.specs.declared.totals.DayTotal.{DayTotal}
use Rattle.interval_core.specs.declared.zone.Zone.{Zone}
use Rattle.interval_core.specs.Account.{starts_of, energy_of}
use Rattle.interval_core.specs.Zone.{day_at}

-- The energy of a civil day, in mWh, with the number of its quarter hours that have a row. The day
-- is given as the number of days since 1970-01-01.
pub record DayAccount : Type 0 where
  pub day : ℤ
  pub count : ℕ
  pub mwh : ℕ

-- A `DayTotal` (the energy of a civil day) with its date converted to a number of days since
-- 1970-01-01.
abbrev pub account_of : DayTotal → DayAccount
account_of total = record { day = epoch_day total.day; count = total.count; mwh = total.mwh }

-- The days of a list of day accounts (energies of civil days), in the order of the list.
abbrev pub days_of : List DayAccount → List ℤ
days_of accounts = map (λ account. account.day) accounts

-- The interval rows (energies of quarter hours) whose start is on a civil day of the time zone.
abbrev pub rows_on : Zone → List Share → ℤ → List Share
rows_on zone rows day = filter (λ row. int_eq (day_at zone row.start) day) rows

-- The number of different numbers in a list.
abbrev pub distinct_count : List ℕ → ℕ
distinct_count [] = 0
distinct_count (n ∷ ns) = (if list_any (λ m. m == n) ns then 0 else 1) + distinct_count ns

-- The day account of a civil day: the number of different quarter hours of its rows, and the energy
-- of these rows. A row belongs to the day on which its quarter hour begins.
abbrev pub account_on : Zone → List Share → ℤ → DayAccount
account_on zone rows day = record {
  day = day;
  count = distinct_count (starts_of (rows_on zone rows day));
  mwh = energy_of (rows_on zone rows day);
}

-- States that the day accounts (energies of civil days) of a list are in order: the day of each
-- account is before the days of all accounts after it.
abbrev pub AreInOrder : List DayAccount → Type 0
AreInOrder [] = Unit {0}
AreInOrder (account ∷ accounts) =
    All (λ later. account.day <ℤ later.day) accounts × AreInOrder accounts

-- States that `accounts` is in order and has one day account (the energy of the day) for each civil
-- day with a row. A row belongs to the day on which its quarter hour begins.
pub record AreAccounts (zone : Zone) (rows : List Share) (accounts : List DayAccount) : Type 0 where
  pub in_order : AreInOrder accounts
  pub complete : (day : ℤ) → Contains (days_of accounts) day ↔ (0 < length (rows_on zone rows day))
  pub each : All (λ account. account ≡ account_on zone rows account.day) accounts

-- Theorem: any time zone and interval rows (energies of quarter hours) have exactly one correct
-- list of day accounts (`AreAccounts`). It is in order, and has the energy of the rows of each
-- civil day.
abbrev pub AccountsAreOne : Type 0
AccountsAreOne = (zone : Zone) (rows : List Share)
    → (accounts : List DayAccount) × AreAccounts zone rows accounts
    × ((others : List DayAccount) → AreAccounts zone rows others → others ≡ accounts)

-- Theorem: the order of interval rows (energies of quarter hours) does not change their list of day
-- accounts (energies of civil days).
abbrev pub AccountsIgnoreOrder : Type 0
AccountsIgnoreOrder = (zone : Zone) (rows others : List Share) (accounts : List DayAccount)
    → AreAccounts zone rows accounts
    → IsPermutation rows others → AreAccounts zone others accounts
