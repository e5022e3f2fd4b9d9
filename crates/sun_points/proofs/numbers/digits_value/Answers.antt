use Rattle.std.proofs.Common.{◌≤◌, ◌^◌, arith}
use Rattle.std.proofs.Math.Nat.{pow-le-pow_right}
use Rattle.std.proofs.lemmas.Grind.{common_steps}
use Rattle.sun_points.proofs.numbers.digits_value.Goals as goal

pub overflow_mul-value : goal.overflow_mul-value
overflow_mul-value c =
    let most : 10 ^ c.loop-digit.digit-index ≤ 10 ^ 18 = pow-le-pow_right {n = 10} (omega arith) {i = c.loop-digit.digit-index} {j = 18} (omega arith) in
    omega arith

pub overflow_add-value : goal.overflow_add-value
overflow_add-value c =
    let most : 10 ^ c.loop-digit.digit-index ≤ 10 ^ 18 = pow-le-pow_right {n = 10} (omega arith) {i = c.loop-digit.digit-index} {j = 18} (omega arith) in
    first_of (omega (arith, c.from.ensures), grind (arith, common_steps))
