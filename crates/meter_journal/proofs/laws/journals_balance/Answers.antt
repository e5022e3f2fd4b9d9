use Rattle.meter_journal.proofs.Balance.{journals_balance as lemma}
use Rattle.meter_journal.proofs.laws.journals_balance.Goals as goal

pub returns : goal.returns
returns c = lemma
