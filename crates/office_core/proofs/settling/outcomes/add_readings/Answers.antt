use Rattle.office_core.proofs.SettlingLemmas.Growing.{one_register_more}
use Rattle.office_books.proofs.Moving.{consults_then}
use Rattle.office_core.proofs.Consulting.{reads_failed}
use Rattle.office_core.proofs.settling.outcomes.add_readings.Goals as goal

pub loop-register-preserved : goal.loop-register-preserved
loop-register-preserved g c = (
  one_register_more _ _ _ _ _ _ _ c.args.at c.args.poll.now _ c.args.registers.now c.loop-register.register-index c.register-item.result
      c.loop-register-test.true c.register-item.is c.loop-register.invariant.1.keeps.facts c.in_ok-add_reading.ensures.reads.goes.clean
      c.loop-register.invariant.0 c.in_ok-add_reading.ensures.adds,
  consults_then _ _ _ _ _ c.loop-register.invariant.1 c.in_ok-add_reading.ensures.reads,
)

pub returns-in_err-add_reading-clause-reads : goal.returns-in_err-add_reading-clause-reads
returns-in_err-add_reading-clause-reads g c =
    reads_failed _ _ _ _ _ _ c.loop-register.invariant.1 c.in_err-add_reading.ensures.reads c.from_residual.ensures.1
