use Rattle.meter_journal.proofs.Alone.{voids_leave_no_trace as lemma}
use Rattle.meter_journal.proofs.laws.voids_leave_no_trace.Goals as goal

pub returns : goal.returns
returns c = lemma
