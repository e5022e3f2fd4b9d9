use Rattle.interval_core.proofs.FoldLemmas.{taken-none}
use Rattle.interval_core.proofs.totals.DayFold.new.Goals as goal

pub returns-clause-taken : goal.returns-clause-taken
returns-clause-taken c = λ zone. rw c.new.ensures.items (taken-none zone)
