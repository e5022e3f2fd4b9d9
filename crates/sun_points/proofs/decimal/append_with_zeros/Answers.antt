use Rattle.sun_points.proofs.Decimals.{appends_three, zeros-written}
use Rattle.sun_points.proofs.decimal.append_with_zeros.Goals as goal

pub returns-then-magnitude-gt0 : goal.returns-then-magnitude-gt0
returns-then-magnitude-gt0 c =
    appends_three _ _ _ _ _ _ c.append_decimal.ensures.digits c.append.ensures.bytes
    (zeros-written c.args.magnitude c.args.zeros c.requires.few c.if-magnitude-gt0.true c.ranges.magnitude.fits c.from.ensures)
