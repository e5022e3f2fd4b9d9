use Rattle.meter_journal.proofs.AuditLemmas.Journals.{rows_of_journals_fit as lemma}
use Rattle.meter_journal.proofs.audit.laws.rows_of_journals_fit.Goals as goal

pub returns : goal.returns
returns c = lemma
