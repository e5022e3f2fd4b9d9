use Rattle.meter_journal.proofs.AuditLemmas.Alone.{matching_rows_are_independent as lemma}
use Rattle.meter_journal.proofs.audit.laws.matching_rows_are_independent.Goals as goal

pub returns : goal.returns
returns c = lemma
