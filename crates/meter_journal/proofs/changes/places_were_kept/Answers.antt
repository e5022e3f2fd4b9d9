use Rattle.meter_journal.proofs.Places.{places_were_kept as lemma}
use Rattle.meter_journal.proofs.changes.places_were_kept.Goals as goal

pub returns : goal.returns
returns c = lemma
