use Rattle.meter_journal.proofs.AuditLemmas.Passed.{passed_rows_fit as lemma}
use Rattle.meter_journal.proofs.audit.laws.passed_rows_fit.Goals as goal

pub returns : goal.returns
returns c = lemma
