use Rattle.std.proofs.Common.{arith}
use Rattle.table_audit.specs.PollDifferences.{unread_outcome}
use Rattle.table_audit.proofs.Differing.{each_more, each_done}
use Rattle.table_audit.proofs.poll_differences.write_unread_outcomes.Goals as goal

pub loop-row-preserved : goal.loop-row-preserved
loop-row-preserved c =
    each_more unread_outcome c.args.rows.now c.loop-row.row-index c.row-item.result c.loop-row.found.items c.write_unread_outcome.new.found.items _
    c.loop-row-test.true c.row-item.is c.loop-row.invariant c.in_ok-write_unread_outcome.ensures

pub returns : goal.returns
returns c = each_done unread_outcome c.args.rows.now c.loop-row.row-index c.loop-row.found.items _ (omega arith) c.loop-row.invariant
