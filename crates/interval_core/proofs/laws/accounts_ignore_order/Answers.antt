use Rattle.interval_core.proofs.OtherOrder.{accounts_ignore_order as lemma}
use Rattle.interval_core.proofs.laws.accounts_ignore_order.Goals as goal

pub returns : goal.returns
returns c = lemma
