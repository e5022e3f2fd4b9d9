use Rattle.meter_journal.proofs.AuditLemmas.CarriedLemmas.Files.{carried_tables_are_fine as lemma}
use Rattle.meter_journal.proofs.audit.carried.carried_tables_are_fine.Goals as goal

pub returns : goal.returns
returns c = lemma
