use Rattle.meter_journal.proofs.AuditLemmas.CarriedLemmas.Quarters.{carries_go_on as lemma}
use Rattle.meter_journal.proofs.audit.carried.carries_go_on.Goals as goal

pub returns : goal.returns
returns c = lemma
