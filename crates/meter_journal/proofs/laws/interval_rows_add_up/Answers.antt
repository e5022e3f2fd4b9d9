use Rattle.meter_journal.proofs.InTime.{interval_rows_add_up as lemma}
use Rattle.meter_journal.proofs.laws.interval_rows_add_up.Goals as goal

pub returns : goal.returns
returns c = lemma c.shares_add_up.ensures c.accounts_add_up.ensures
