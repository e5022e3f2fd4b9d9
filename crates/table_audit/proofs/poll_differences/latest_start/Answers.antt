use Rattle.std.proofs.Common.{arith}
use Rattle.table_audit.proofs.Differing.{latest_rows_more, latest_rows_done}
use Rattle.table_audit.proofs.poll_differences.latest_start.Goals as goal

pub loop-row-preserved : goal.loop-row-preserved
loop-row-preserved c =
    latest_rows_more c.args.rows.now c.loop-row.row-index c.row-item.result c.loop-row.latest c.later_start-latest.result _
    c.loop-row-test.true c.row-item.is c.loop-row.invariant c.later_start-latest.ensures

pub returns : goal.returns
returns c = latest_rows_done c.args.rows.now c.loop-row.row-index c.loop-row.latest _ (omega arith) c.loop-row.invariant
