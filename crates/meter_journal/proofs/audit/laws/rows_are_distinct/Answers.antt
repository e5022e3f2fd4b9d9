use Rattle.meter_journal.proofs.AuditLemmas.Apart.{rows_are_distinct as lemma}
use Rattle.meter_journal.proofs.audit.laws.rows_are_distinct.Goals as goal

pub returns : goal.returns
returns c = lemma
