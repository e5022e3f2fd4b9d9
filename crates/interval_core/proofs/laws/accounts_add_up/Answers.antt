use Rattle.interval_core.proofs.RowLemmas.{rows_add_up}
use Rattle.interval_core.proofs.laws.accounts_add_up.Goals as goal

pub returns : goal.returns
returns c = rows_add_up
