use Rattle.std.proofs.Common.{arith}
use Rattle.office_http.proofs.MessagesLemmas.FaultRows.{one_more}
use Rattle.office_http.proofs.messages.faults.push_rows.Goals as goal

pub loop-faulty-preserved : goal.loop-faulty-preserved
loop-faulty-preserved c = record {
  bytes = one_more _ _ _ c.args.rows.now c.loop-faulty.faulty-index _ c.loop-faulty-test.true c.loop-faulty.invariant.bytes c.push_row.ensures.bytes;
  size = omega (arith, c.loop-faulty.invariant.size, c.push_row.ensures.size);
}
