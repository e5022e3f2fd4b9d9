use Rattle.meter_journal.proofs.AuditLemmas.Finished.{finished_is_fine as lemma}
use Rattle.meter_journal.proofs.audit.laws.finished_is_fine.Goals as goal

pub returns : goal.returns
returns c = lemma
