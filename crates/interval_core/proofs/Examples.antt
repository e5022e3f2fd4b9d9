-- Worked examples of the limits on the length of a step, on timestamps and on time zone texts: the
-- last allowed value and the first refused value.
use native.Mathlib.Omega.{arith}
use Rattle.std.proofs.Common.{◌≡◌, [], Some, refl, lit≤, true, false}
use Rattle.std.specs.Prelude.{nat_le}
use Rattle.energy_core.specs.Account.{intervals_touched}
use Rattle.interval_core.specs.declared.limits.TheConstants.{MAX_STEP_SECONDS, MAX_ZONE_TEXT}
use Rattle.interval_core.specs.Account.{Touches}
use Rattle.interval_core.specs.Fold.{IsSoundFold}

-- A step (the energy between two readings) that ends with its 3,000th quarter hour touches 3,000
-- quarter hours. A step that is one second longer touches 3,001.
longest_step : intervals_touched 0 2700000 ≡ 3000
longest_step = refl

step_too_long : intervals_touched 0 2700001 ≡ 3001
step_too_long = refl

most_seconds : MAX_STEP_SECONDS ≡ 2700000
most_seconds = refl

-- A quarter-hour interval includes its last second, and excludes the first second of the next
-- interval.
last_second : Touches (record { from = 899; till = 900; mwh = 1 }) 0
last_second = (refl, omega arith, omega arith)

first_second_of_the_next : Touches (record { from = 900; till = 901; mwh = 1 }) 0 → ⊥
first_second_of_the_next touches = omega (arith, touches.2)

-- The latest row that a `DayFold` (a sum of energy by civil day) accepts may begin at the beginning
-- of 2100, but not later.
last_moment : IsSoundFold [] (Some 4102444800)
last_moment = record { in_order = tt; counts = λ k d lt. absurd (omega (arith, lt)); moments = lit≤ tt }

past_the_last_moment : IsSoundFold [] (Some 4102444801) → ⊥
past_the_last_moment fold = omega (arith, fold.moments)

-- The text of a time zone has at most 64 bytes.
longest_zone_text : nat_le 64 MAX_ZONE_TEXT ≡ true
longest_zone_text = refl

zone_text_too_long : nat_le 65 MAX_ZONE_TEXT ≡ false
zone_text_too_long = refl
