use Rattle.meter_journal.proofs.Chains.{voids_go_no_further as lemma}
use Rattle.meter_journal.proofs.changes.voids_go_no_further.Goals as goal

pub returns : goal.returns
returns c = lemma
