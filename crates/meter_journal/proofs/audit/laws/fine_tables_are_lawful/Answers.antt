use Rattle.meter_journal.proofs.AuditLemmas.Lawful.{fine_tables_are_lawful as lemma}
use Rattle.meter_journal.proofs.audit.laws.fine_tables_are_lawful.Goals as goal

pub returns : goal.returns
returns c = lemma c.interval_rows_add_up.ensures
