use Rattle.interval_core.proofs.SpreadLemmas.{spread}
use Rattle.interval_core.proofs.laws.shares_add_up.Goals as goal

pub returns : goal.returns
returns c = spread
