use Rattle.meter_journal.proofs.AuditLemmas.Passing.{fitting_rows_pass as lemma}
use Rattle.meter_journal.proofs.audit.laws.fitting_rows_pass.Goals as goal

pub returns : goal.returns
returns c = lemma
