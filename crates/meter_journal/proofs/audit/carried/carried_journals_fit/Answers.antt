use Rattle.meter_journal.proofs.AuditLemmas.CarriedLemmas.Fitting.{carried_journals_fit as lemma}
use Rattle.meter_journal.proofs.audit.carried.carried_journals_fit.Goals as goal

pub returns : goal.returns
returns c = lemma
