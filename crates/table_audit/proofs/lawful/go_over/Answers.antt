use Rattle.std.proofs.Common.{arith}
use Rattle.table_audit.proofs.Agreeing.{refused_so}
use Rattle.table_audit.proofs.lawful.go_over.Goals as goal

pub returns-in-Some-clause-gone : goal.returns-in-Some-clause-gone
returns-in-Some-clause-gone c =
    refused_so c.refused_is_not_fine.ensures c.args.meter.now c.args.rows.now c.loop-index.index _ c.loop-index.progress c.take_row.new.progress
    c.in_ok-fault.field-0 c.in-Some.fault c.requires.meter (omega arith) c.loop-index.invariant.gone c.in-Some.is c.in_ok-fault.ensures.goes_on
