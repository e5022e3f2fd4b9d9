use Rattle.std.proofs.Common.{arith}
use Rattle.mb_wire.proofs.Packing.{length-coils_of}
use Rattle.mb_wire.proofs.requests.count_coils.Goals as goal

pub returns : goal.returns
returns c = omega (arith, length-coils_of c.args.quantity c.args.bytes.now, c.saturating_mul.ensures, c.min.ensures, c.ranges.quantity.fits)
