use Rattle.energy_report.proofs.ShownLemmas.{as_they_are}
use Rattle.energy_report.proofs.laws.rows_are_shown.Goals as goal

pub returns : goal.returns
returns c = λ form days few small. as_they_are form days few small
