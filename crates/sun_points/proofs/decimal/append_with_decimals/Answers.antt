use Rattle.std.proofs.Common.{arith}
use Rattle.std.proofs.Math.Nat.{one-le-pow}
use Rattle.sun_points.proofs.decimal.append_with_decimals.Goals as goal

pub nonzero_div-magnitude : goal.nonzero_div-magnitude
nonzero_div-magnitude c = omega (arith, c.pow.ensures, one-le-pow c.from.result 10 (omega arith))
