-- The model of `DayFold`, which adds up interval rows (energies of quarter hours) by civil day as
-- they arrive.
use Rattle.std.specs.Prelude.{◌≡◌, ℕ, ℤ, ◌+◌, ◌-◌, ◌≤◌, ◌<◌, ◌<ℤ◌, ◌≤ℤ◌, ◌^◌, min, Option, Some, None, MatchOption, List, [], ◌∷◌, ◌++◌, length, take, drop, All, Contains, Bool, if◌then◌else◌, ◌⊎◌, Result, OnOk}
use Rattle.std.specs.List.{HoldsAt}
use Rattle.interval_core.specs.declared.day.DayFault.{DayFault}
use Rattle.interval_core.specs.declared.limits.TheConstants.{LAST_MOMENT}
use Rattle.interval_core.specs.declared.shares.Share.{Share}
use Rattle.interval_core.specs.declared.zone.Zone.{Zone}
use Rattle.interval_core.specs.Account.{energy_of, starts_of}
use Rattle.interval_core.specs.Days.{DayAccount, AreAccounts, AreInOrder}

-- The state of a `DayFold`: the energy by civil day of all interval rows (energies of quarter
-- hours) that were added, and the start of the latest row. The start is `None` if no row was added.
pub record FoldState : Type 0 where
  pub accounts : List DayAccount
  pub latest : Option ℕ

-- The state of a `DayFold` (energy by civil day) to which no row was added.
abbrev pub no_rows : FoldState
no_rows = record { accounts = []; latest = None }

-- True if a start time is the latest start of a list of interval rows (energies of quarter hours),
-- or `None` if the list is empty.
abbrev pub IsLatest : List Share → Option ℕ → Type 0
IsLatest rows latest =
    MatchOption latest (rows ≡ [])
    (λ start. Contains (starts_of rows) start × All (λ row. row.start ≤ start) rows)

-- States that a `DayFold` (a sum of energy by civil day) has added up exactly the interval rows of
-- a list, each on its civil day in the time zone. An interval row is the energy of a quarter hour.
pub record HasTaken (zone : Zone) (rows : List Share) (fold : FoldState) : Type 0 where
  pub accounts : AreAccounts zone rows fold.accounts
  pub latest : IsLatest rows fold.latest

-- The contract of adding an interval row (energy of a quarter hour) to a `DayFold` (energy by civil
-- day). On success, the `DayFold` has added up its earlier rows and this row. Nothing is stated if
-- the energy of all rows is 2^128 mWh or more.
abbrev pub TakesRow : Zone → Share → (old : FoldState) → Result (Unit {0}) DayFault
    → (new : FoldState) → Type 0
TakesRow zone row old answer new = (rows : List Share) → HasTaken zone rows old
    → energy_of rows + row.mwh < 2 ^ 128
    → OnOk answer (HasTaken zone (rows ++ row ∷ []) new)

-- An upper bound of the number of quarter hours of a day: one for each second up to the start of
-- the latest row.
abbrev pub most_intervals : Option ℕ → ℕ
most_intervals None = 0
most_intervals (Some start) = start + 1

-- The invariant of a `DayFold` (energy by civil day). Its day accounts are in order, no account
-- counts more quarter hours than `most_intervals` allows, and the latest row starts no later than
-- the beginning of 2100.
pub record IsSoundFold (accounts : List DayAccount) (latest : Option ℕ) : Type 0 where
  pub in_order : AreInOrder accounts
  pub counts : All (λ account. account.count ≤ most_intervals latest) accounts
  pub moments : most_intervals latest ≤ LAST_MOMENT + 1

-- States that `place` is the index at which a day belongs in a list of day accounts (energies of
-- civil days). Accounts before this index are of earlier days, and the other accounts are not.
pub record IsPlace (day : ℤ) (accounts : List DayAccount) (place : ℕ) : Type 0 where
  pub earlier : All (λ account. account.day <ℤ day) (take place accounts)
  pub others : All (λ account. day ≤ℤ account.day) (drop place accounts)

-- True if the day account (the energy of a civil day) at the given index of a list is that of a
-- given day.
abbrev pub HoldsDay : ℤ → List DayAccount → ℕ → Type 0
HoldsDay day accounts place =
    (place < length accounts) × HoldsAt (λ account. account.day ≡ day) accounts place

-- States that a list has no day account (the energy of a day) for a day. Accounts before the index
-- `place` are of earlier days, and the other accounts are of later days.
pub record IsGap (day : ℤ) (accounts : List DayAccount) (place : ℕ) : Type 0 where
  pub within : place ≤ length accounts
  pub earlier : All (λ account. account.day <ℤ day) (take place accounts)
  pub later : All (λ account. day <ℤ account.day) (drop place accounts)

-- States that the lists `old` and `new` differ only in the day account (the energy of a day) of
-- `day`. The account grows by `count` quarter hours and `mwh` of energy. The energy saturates at
-- 2^128 - 1 mWh.
pub record Grows (day : ℤ) (count mwh : ℕ) (old new : List DayAccount) : Type 0 where
  pub before : List DayAccount
  pub after : List DayAccount
  pub had_count : ℕ
  pub had_mwh : ℕ
  pub old_is : old ≡ before ++ record { day = day; count = had_count; mwh = had_mwh } ∷ after
  pub new_is : new
      ≡ before ++ record {
        day = day;
        count = had_count + count;
        mwh = min (had_mwh + mwh) (2 ^ 128 - 1);
      } ∷ after

-- States that the list `new` is `old` with one more day account (the energy of a day), for a day
-- without an account in `old`. The new account has one quarter hour, and `mwh` of energy.
pub record Begins (day : ℤ) (mwh : ℕ) (old new : List DayAccount) : Type 0 where
  pub before : List DayAccount
  pub after : List DayAccount
  pub earlier : All (λ account. account.day <ℤ day) before
  pub later : All (λ account. day <ℤ account.day) after
  pub old_is : old ≡ before ++ after
  pub new_is : new ≡ before ++ record { day = day; count = 1; mwh = mwh } ∷ after

-- True if an energy in mWh was added to the day account of a day, or a new day account with this
-- energy was inserted. If the Boolean is true, an existing day account also counts one more quarter
-- hour.
abbrev pub IsAdded : ℤ → Bool → ℕ → List DayAccount → List DayAccount → Type 0
IsAdded day is_new mwh old new =
    Grows day (if is_new then 1 else 0) mwh old new ⊎ Begins day mwh old new
