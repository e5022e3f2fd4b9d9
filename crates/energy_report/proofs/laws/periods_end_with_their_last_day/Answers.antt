use Rattle.energy_report.proofs.PeriodLemmas.{ends_with_last}
use Rattle.energy_report.proofs.laws.periods_end_with_their_last_day.Goals as goal

pub returns : goal.returns
returns c = ends_with_last
