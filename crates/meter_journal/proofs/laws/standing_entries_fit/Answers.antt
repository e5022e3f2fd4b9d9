use Rattle.meter_journal.proofs.Keeping.{standing_entries_fit as lemma}
use Rattle.meter_journal.proofs.laws.standing_entries_fit.Goals as goal

pub returns : goal.returns
returns c = lemma
