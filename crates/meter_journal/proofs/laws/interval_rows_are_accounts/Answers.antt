use Rattle.meter_journal.proofs.InTime.{interval_rows_are_accounts as lemma}
use Rattle.meter_journal.proofs.laws.interval_rows_are_accounts.Goals as goal

pub returns : goal.returns
returns c = lemma c.shares_add_up.ensures
