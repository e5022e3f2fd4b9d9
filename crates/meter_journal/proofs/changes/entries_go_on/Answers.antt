use Rattle.meter_journal.proofs.Adding.{entries_go_on as lemma}
use Rattle.meter_journal.proofs.changes.entries_go_on.Goals as goal

pub returns : goal.returns
returns c = lemma c.shares_add_up.ensures
