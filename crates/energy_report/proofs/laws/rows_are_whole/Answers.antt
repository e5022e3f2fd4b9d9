use Rattle.energy_report.proofs.WholeLemmas.{whole}
use Rattle.energy_report.proofs.laws.rows_are_whole.Goals as goal

pub returns : goal.returns
returns c = λ period days order. whole period days order
