use Rattle.meter_journal.proofs.AuditLemmas.CarriedLemmas.Quarters.{carries_count_once as lemma}
use Rattle.meter_journal.proofs.audit.carried.carries_count_once.Goals as goal

pub returns : goal.returns
returns c = lemma c.shares_add_up.ensures
