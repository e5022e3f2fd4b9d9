-- The model of a sink (a consumer of rows) that adds up interval rows (energy by quarter hour) by
-- civil day. The sink receives the rows of a query one by one.
use Rattle.std.specs.Prelude.{◌≡◌, ◌+◌, ◌≤◌, ◌<◌, ◌^◌, List, [], ◌∷◌, ◌++◌, map, Option, Some, None, MatchOption, Result, Ok, Err, All}
use Rattle.std.specs.declared.alloc.Global.{Global}
use Rattle.std.specs.declared.vec.Vec.{Vec}
use Rattle.interval_core.specs.Account.{energy_of}
use Rattle.interval_core.specs.Days.{DayAccount, account_of}
use Rattle.interval_core.specs.Fold.{HasTaken}
use Rattle.interval_core.specs.declared.day.DayFault.{DayFault}
use Rattle.interval_core.specs.declared.day.DayFault.TheVariants as fault
use Rattle.interval_core.specs.declared.shares.Share.{Share}
use Rattle.interval_core.specs.declared.totals.DayTotal.{DayTotal}
use Rattle.office_events.specs.declared.refusals.Refusal.{Refusal}
use Rattle.office_events.specs.declared.refusals.Refusal.TheVariants as refusal
use Rattle.office_events.specs.declared.refusals.StoreCause.TheVariants as store
use Rattle.office_books.specs.Facts.{moment_limit}
use Rattle.office_core.specs.declared.day_sink.DaySink.{DaySink}

-- True if the interval row may be added after the given rows. The row starts no earlier than these
-- rows, its start is a valid timestamp, and the total energy in mWh fits in 128 bits.
pub record MayFollow (rows : List Share) (row : Share) : Type 0 where
  pub in_turn : All (λ earlier. earlier.start ≤ row.start) rows
  pub moment : row.start ≤ moment_limit
  pub energy : energy_of rows + row.mwh < 2 ^ 128

-- True if the sink, which adds up energy by civil day, has the given property or has run out of
-- memory. False if a quarter hour had no civil day.
abbrev pub UnlessFailed : Option DayFault → Type 0 → Type 0
UnlessFailed None P = P
UnlessFailed (Some fault.Memory) P = Unit {0}
UnlessFailed (Some fault.Zone) P = ⊥

-- True if the sums by civil day contain exactly the given interval rows (energy by quarter hour),
-- or memory ran out.
abbrev pub HasAdded : DaySink → List Share → Type 0
HasAdded sink rows = UnlessFailed sink.fault (HasTaken sink.zone rows sink.fold)

-- The effect of an interval row (the energy of a quarter hour) on sums by civil day, if the row may
-- be added. The row is added, or memory runs out. The time zone stays the same.
pub record AddsRow (old : DaySink) (row : Share) (new : DaySink) : Type 0 where
  pub zone : new.zone ≡ old.zone
  pub added : (rows : List Share) → HasTaken old.zone rows old.fold → MayFollow rows row
      → HasAdded new (rows ++ row ∷ [])

-- The effect of any interval row (the energy of a quarter hour) on sums by civil day. The row is
-- added, or ignored after an earlier failure.
abbrev pub TakesShare : DaySink → Share → DaySink → Type 0
TakesShare old row new = MatchOption old.fault (AddsRow old row new) (λ fault. new ≡ old)

-- The refusal that reports why the sums by civil day failed. Either a quarter hour had no civil
-- day, or memory ran out.
abbrev pub as_refusal : DayFault → Refusal
as_refusal fault.Zone = refusal.Store store.NoDay
as_refusal fault.Memory = refusal.Memory

-- True if the result is the list of days with the given amounts of energy, or the refusal that
-- reports why the sums by civil day failed.
abbrev pub EndsAs : Option DayFault → List DayAccount → Result (Vec DayTotal Global) Refusal
    → Type 0
EndsAs None accounts (Ok days) = map account_of days.items ≡ accounts
EndsAs None accounts (Err why) = ⊥
EndsAs (Some fault) accounts (Ok days) = ⊥
EndsAs (Some fault) accounts (Err why) = why ≡ as_refusal fault
