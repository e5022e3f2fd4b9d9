use Rattle.interval_core.proofs.OneLemmas.{exists_for, one_for}
use Rattle.interval_core.proofs.laws.accounts_are_one.Goals as goal

pub returns : goal.returns
returns c = λ zone rows.
    let one = exists_for zone rows in
    (one.0, one.1, λ others are. one_for zone rows others one.0 are one.1)
