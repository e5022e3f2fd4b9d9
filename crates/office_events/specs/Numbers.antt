-- The numeric codes of refusals and of the causes of a store failure, and the increment of a 64-bit
-- counter, which stays at 2^64 - 1.
use Rattle.std.specs.Prelude.{ℕ, ◌+◌, ◌-◌, ◌^◌, min}
use Rattle.office_events.specs.declared.refusals.Refusal.{Refusal}
use Rattle.office_events.specs.declared.refusals.Refusal.TheVariants as refusal
use Rattle.office_events.specs.declared.refusals.StoreCause.{StoreCause}
use Rattle.office_events.specs.declared.refusals.StoreCause.TheVariants as store

-- The numeric code that the program prints for each refusal.
abbrev pub refusal_number : Refusal → ℕ
refusal_number refusal.NotFound = 1
refusal_number refusal.Exists = 2
refusal_number refusal.ClockBack = 3
refusal_number refusal.BadScale = 4
refusal_number refusal.NegativeStep = 5
refusal_number refusal.NotLater = 6
refusal_number refusal.SpanTooLong = 7
refusal_number refusal.TotalFull = 8
refusal_number refusal.Ended = 9
refusal_number refusal.Busy = 10
refusal_number refusal.Reused = 11
refusal_number refusal.Limit = 12
refusal_number (refusal.Store cause) = 13
refusal_number refusal.Memory = 14
refusal_number refusal.Stopped = 15
refusal_number refusal.NotVoidable = 16
refusal_number (refusal.NotPlausible cause) = 17

-- The numeric code of each cause of a store failure.
abbrev pub store_number : StoreCause → ℕ
store_number store.Refused = 1
store_number store.Damaged = 2
store_number store.NoDay = 3

-- The value of a 64-bit counter after an increment. The counter saturates at 2^64 - 1.
abbrev pub one_more : ℕ → ℕ
one_more n = min (n + 1) (2 ^ 64 - 1)
