use Rattle.meter_journal.proofs.AsEntered.{rows_are_kept as lemma}
use Rattle.meter_journal.proofs.laws.rows_are_kept.Goals as goal

pub returns : goal.returns
returns c = lemma
