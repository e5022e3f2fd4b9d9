use Rattle.std.proofs.Common.{arith}
use Rattle.table_audit.proofs.Differing.{fallen_more, fallen_done}
use Rattle.table_audit.proofs.poll_differences.write_each_fallen.Goals as goal

pub loop-row-preserved : goal.loop-row-preserved
loop-row-preserved c =
    fallen_more c.args.rows.now c.loop-row.row-index c.row-item.result c.loop-row.latest c.later_start-latest.result c.loop-row.found.items c.write_fallen.new.found.items _
    c.loop-row-test.true c.row-item.is c.loop-row.invariant c.in_ok-write_fallen.ensures c.later_start-latest.ensures

pub returns : goal.returns
returns c = fallen_done c.args.rows.now c.loop-row.row-index c.loop-row.latest c.loop-row.found.items _ (omega arith) c.loop-row.invariant
