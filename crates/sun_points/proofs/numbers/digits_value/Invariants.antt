use Rattle.std.proofs.Common.{◌≡◌, ◌<◌, ◌^◌, take}
use Rattle.sun_points.specs.Numbers.Digits.{digits_value}
use Rattle.sun_points.proofs.numbers.digits_value.Given as goal

abbrev pub invariant-loop-digit : goal.invariant-loop-digit
invariant-loop-digit l = (l.value ≡ digits_value (take l.digit-index l.digits)) × (l.value < 10 ^ l.digit-index)
