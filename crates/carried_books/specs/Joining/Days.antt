-- Adding up the energy intervals (quarter hours with energy) of several database files by civil
-- day.
use Rattle.std.specs.Prelude.{◌≡◌, ◌⊎◌, ℕ, ◌+◌, ◌<◌, ◌^◌, List, [], ◌∷◌, ◌++◌, Contains, Option, Some, None, MatchOption}
use Rattle.interval_core.specs.Account.{energy_of, starts_of}
use Rattle.interval_core.specs.Fold.{FoldState, HasTaken}
use Rattle.interval_core.specs.declared.day.DayFault.{DayFault}
use Rattle.interval_core.specs.declared.day.DayFault.TheVariants as fault
use Rattle.interval_core.specs.declared.limits.TheConstants.{LAST_MOMENT}
use Rattle.interval_core.specs.declared.shares.Share.{Share}
use Rattle.interval_core.specs.declared.zone.Zone.{Zone}
use Rattle.carried_books.specs.declared.joining.days.EarlierDays.{EarlierDays}
use Rattle.carried_books.specs.declared.joining.days.JoinedDays.{JoinedDays}

-- True if the interval `row` starts before one of the intervals in `rows`, or after the largest
-- supported timestamp. Then `row` can't be added to the sum of `rows` by day.
abbrev pub IsOutOfTurn : List Share → Share → Type 0
IsOutOfTurn rows row =
    ((earlier : ℕ) × Contains (starts_of rows) earlier × (row.start < earlier))
    ⊎ (LAST_MOMENT < row.start)

-- True if one of the intervals in `rows` starts before an interval that precedes it in the list, or
-- after the largest supported timestamp.
pub record AreOutOfTurn (rows : List Share) : Type 0 where
  pub before : List Share
  pub row : Share
  pub after : List Share
  pub are : rows ≡ before ++ row ∷ after
  pub is : IsOutOfTurn before row

-- True if the total energy of the intervals in `rows`, in mWh, fits in 128 bits.
abbrev pub HasNumber : List Share → Type 0
HasNumber rows = energy_of rows < 2 ^ 128

-- States that the energy intervals (energies of quarter hours) in `rows` were added up by civil
-- day, or that the sum failed. It fails if an interval is out of order, or if memory runs out.
abbrev pub AddUp : Option DayFault → Zone → List Share → FoldState → Type 0
AddUp None zone rows fold = HasTaken zone rows fold
AddUp (Some fault.Zone) zone rows fold = AreOutOfTurn rows
AddUp (Some fault.Memory) zone rows fold = Unit {0}

-- States that `sink` (an accumulator) has the sum of the intervals in `rows` by civil day, or has
-- recorded a failure. This is stated only if the energy of the intervals fits in 128 bits.
abbrev pub HasAdded : JoinedDays → List Share → Type 0
HasAdded sink rows = HasNumber rows → AddUp sink.fault sink.zone rows sink.fold

-- States that a new energy interval (energy of a quarter hour) was added to a sum by civil day, or
-- that the sum failed. It fails if the interval is out of order, or if memory runs out.
abbrev pub AddsUp : Option DayFault → Zone → List Share → Share → FoldState → Type 0
AddsUp None zone rows row fold = HasTaken zone (rows ++ row ∷ []) fold
AddsUp (Some fault.Zone) zone rows row fold = IsOutOfTurn rows row
AddsUp (Some fault.Memory) zone rows row fold = Unit {0}

-- States that an energy interval (energy of a quarter hour) was added to the sum by civil day, or
-- that the sum recorded a failure. This is stated only if the total energy fits in 128 bits. The
-- sum's time zone is unchanged in any case.
pub record AddsRow (old : JoinedDays) (row : Share) (new : JoinedDays) : Type 0 where
  pub zone : new.zone ≡ old.zone
  pub added : (rows : List Share) → HasTaken old.zone rows old.fold
      → energy_of rows + row.mwh < 2 ^ 128
      → AddsUp new.fault old.zone rows row new.fold

-- A sum of energy intervals (energies of quarter hours) adds a new interval, or drops the interval
-- if an earlier failure was recorded.
abbrev pub TakesShare : JoinedDays → Share → JoinedDays → Type 0
TakesShare old row new = MatchOption old.fault (AddsRow old row new) (λ fault. new ≡ old)

-- States that, if the energy of the intervals in `rows` fits in 128 bits, `days` is the sum of
-- these intervals by civil day.
abbrev pub AreSumOf : Zone → List Share → EarlierDays → Type 0
AreSumOf zone rows days = HasNumber rows → HasTaken zone rows days.fold

-- The accumulator `sink` continues from the sum `days` of energy by day: `sink` has this sum, the
-- time zone `zone`, and no failure.
pub record GoesOnFrom (zone : Zone) (days : EarlierDays) (sink : JoinedDays) : Type 0 where
  pub zone_is : sink.zone ≡ zone
  pub fold : sink.fold ≡ days.fold
  pub works : sink.fault ≡ None
