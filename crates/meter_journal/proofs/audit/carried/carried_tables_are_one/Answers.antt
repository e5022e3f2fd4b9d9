use Rattle.meter_journal.proofs.AuditLemmas.CarriedLemmas.Files.{carried_tables_are_one as lemma}
use Rattle.meter_journal.proofs.audit.carried.carried_tables_are_one.Goals as goal

pub returns : goal.returns
returns c = lemma c.shares_add_up.ensures
