use Rattle.energy_report.proofs.PlainLemmas.{plain}
use Rattle.energy_report.proofs.laws.plain_reports_are_lists_of_days.Goals as goal

pub returns : goal.returns
returns c = λ days order held. plain days order held
