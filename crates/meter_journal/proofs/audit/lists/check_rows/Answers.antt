use Rattle.std.proofs.Common.{sym, arith}
use Rattle.meter_journal.proofs.AuditLemmas.Apart.{passed_more, refused_all, first_refused}
use Rattle.meter_journal.proofs.audit.lists.check_rows.Goals as goal

pub returns-in-Err-clause-refused : goal.returns-in-Err-clause-refused
returns-in-Err-clause-refused c =
    refused_all c.args.meter.now c.args.rows.now c.loop-index.index _ c.loop-index.check c.in-Err.fault c.requires.meter.installed
    (omega arith) c.loop-index.invariant.passed (sym c.in-Err.ensures.value)

pub returns-in-Err-clause-first : goal.returns-in-Err-clause-first
returns-in-Err-clause-first c =
    first_refused c.args.meter.now c.args.rows.now c.loop-index.index _ c.loop-index.check c.in-Err.fault
    (omega arith) c.loop-index.invariant.passed (sym c.in-Err.ensures.value)

pub loop-index-preserved : goal.loop-index-preserved
loop-index-preserved c = record {
  sound = c.in-Ok.ensures.sound;
  passed = passed_more c.passed_rows_fit.ensures c.args.meter.now c.args.rows.now c.loop-index.index _ c.loop-index.check c.in-Ok.next _
      c.requires.meter.installed (omega arith) c.loop-index.invariant.passed (sym c.in-Ok.ensures.value);
}
