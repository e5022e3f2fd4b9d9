use Rattle.meter_journal.proofs.Chains.{rows_lie_within as lemma}
use Rattle.meter_journal.proofs.changes.rows_lie_within.Goals as goal

pub returns : goal.returns
returns c = lemma c.shares_add_up.ensures
