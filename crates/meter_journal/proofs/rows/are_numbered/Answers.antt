use Rattle.std.proofs.Common.{arith}
use Rattle.meter_journal.proofs.Numbered.{not_numbered}
use Rattle.meter_journal.proofs.rows.are_numbered.Goals as goal

pub returns-then-row-index-clause-if_so : goal.returns-then-row-index-clause-if_so
returns-then-row-index-clause-if_so c = λ h.
    absurd (not_numbered c.args.rows.now c.loop-index.index _ (omega arith) c.if-row-index.true h)
