use Rattle.meter_journal.proofs.AuditLemmas.Finished.{refused_is_not_fine as lemma}
use Rattle.meter_journal.proofs.audit.laws.refused_is_not_fine.Goals as goal

pub returns : goal.returns
returns c = lemma
