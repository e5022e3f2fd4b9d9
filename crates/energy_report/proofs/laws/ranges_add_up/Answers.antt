use Rattle.energy_report.proofs.RangeLemmas.{parts_add_up}
use Rattle.energy_report.proofs.laws.ranges_add_up.Goals as goal

pub returns : goal.returns
returns c = λ from till cut days first second. parts_add_up from till cut days first second
