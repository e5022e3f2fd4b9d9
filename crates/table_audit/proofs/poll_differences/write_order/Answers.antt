use Rattle.std.proofs.Common.{arith}
use Rattle.table_audit.proofs.Differing.{order_more}
use Rattle.table_audit.proofs.poll_differences.write_order.Goals as goal

pub loop-row-preserved : goal.loop-row-preserved
loop-row-preserved c =
    order_more c.args.rows.now c.loop-row.row-index c.row-item.result c.args.last c.loop-row.next _ c.loop-row.found.items c.put_row.new.found.items _
    c.loop-row-test.true c.row-item.is c.loop-row.invariant c.in_ok-next.ensures.put c.in_ok-next.ensures.next
