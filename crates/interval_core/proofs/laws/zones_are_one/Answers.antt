use Rattle.interval_core.proofs.ZoneLemmas.{same_days}
use Rattle.interval_core.proofs.laws.zones_are_one.Goals as goal

pub returns : goal.returns
returns c = same_days
