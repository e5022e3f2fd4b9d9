use Rattle.meter_journal.proofs.AuditLemmas.CarriedLemmas.AllFiles.{files_are_one_history as lemma}
use Rattle.meter_journal.proofs.audit.carried.files_are_one_history.Goals as goal

pub returns : goal.returns
returns c = lemma c.interval_rows_add_up.ensures
