use Rattle.std.proofs.Common.{arith}
use Rattle.table_audit.specs.PollDifferences.{early}
use Rattle.table_audit.proofs.Differing.{each_more, each_done}
use Rattle.table_audit.proofs.poll_differences.write_each_early.Goals as goal

pub loop-row-preserved : goal.loop-row-preserved
loop-row-preserved c =
    each_more (early c.args.polls.now) c.args.rows.now c.loop-row.row-index c.row-item.result c.loop-row.found.items c.write_early.new.found.items _
    c.loop-row-test.true c.row-item.is c.loop-row.invariant c.in_ok-write_early.ensures

pub returns : goal.returns
returns c = each_done (early c.args.polls.now) c.args.rows.now c.loop-row.row-index c.loop-row.found.items _ (omega arith) c.loop-row.invariant
