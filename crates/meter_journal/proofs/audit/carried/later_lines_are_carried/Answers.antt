use Rattle.meter_journal.proofs.AuditLemmas.CarriedLemmas.Splitting.{later_lines_are_carried as lemma}
use Rattle.meter_journal.proofs.audit.carried.later_lines_are_carried.Goals as goal

pub returns : goal.returns
returns c = lemma
