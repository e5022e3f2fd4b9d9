use Rattle.meter_journal.proofs.Voided.{voids_change_two_rows as lemma}
use Rattle.meter_journal.proofs.changes.voids_change_two_rows.Goals as goal

pub returns : goal.returns
returns c = lemma c.shares_add_up.ensures
