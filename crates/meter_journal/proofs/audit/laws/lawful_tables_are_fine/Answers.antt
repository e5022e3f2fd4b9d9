use Rattle.meter_journal.proofs.AuditLemmas.Lawful.{lawful_tables_are_fine as lemma}
use Rattle.meter_journal.proofs.audit.laws.lawful_tables_are_fine.Goals as goal

pub returns : goal.returns
returns c = lemma
