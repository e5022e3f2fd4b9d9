use Rattle.meter_journal.proofs.Moving.{shares_move_energy as lemma}
use Rattle.meter_journal.proofs.changes.shares_move_energy.Goals as goal

pub returns : goal.returns
returns c = lemma
