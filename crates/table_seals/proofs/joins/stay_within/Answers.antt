use Rattle.std.proofs.Common.{sym, arith}
use Rattle.table_seals.proofs.Joined.{goes_within, goes_past, goes_to_end}
use Rattle.table_seals.proofs.joins.stay_within.Goals as goal

pub loop-meter-preserved : goal.loop-meter-preserved
loop-meter-preserved c =
    goes_within c.loop-meter.left c.in-Some.rest c.args.most c.args.name.now c.args.meters.now c.loop-meter.meter-index c.meter-item.result
    (omega arith) c.meter-item.is (sym c.in-Some.ensures) c.loop-meter.invariant

pub returns-in-None : goal.returns-in-None
returns-in-None c =
    goes_past c.loop-meter.left c.args.most c.args.name.now c.args.meters.now c.loop-meter.meter-index c.meter-item.result
    (omega arith) c.meter-item.is (sym c.in-None.ensures) c.loop-meter.invariant

pub returns : goal.returns
returns c = goes_to_end c.loop-meter.left c.args.most c.args.name.now c.args.meters.now c.loop-meter.meter-index (omega arith) c.loop-meter.invariant
