use Rattle.std.proofs.Common.{arith}
use Rattle.meter_journal.proofs.Forward.{last_more, last_all}
use Rattle.meter_journal.proofs.rows.last_of_rows.Goals as goal

pub loop-row-preserved : goal.loop-row-preserved
loop-row-preserved c =
    last_more c.args.opening.now c.args.rows.now c.loop-row.row-index _ c.loop-row.last c.following-last.result (omega arith) c.loop-row.invariant
    c.following-last.ensures

pub returns : goal.returns
returns c = last_all c.args.opening.now c.args.rows.now c.loop-row.row-index c.loop-row.last (omega arith) c.loop-row.invariant
