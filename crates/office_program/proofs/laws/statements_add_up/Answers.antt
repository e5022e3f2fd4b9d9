use Rattle.office_program.proofs.MeterSums.{add_up}
use Rattle.office_program.proofs.laws.statements_add_up.Goals as goal

pub returns : goal.returns
returns c = λ zone range meters days some are few. add_up zone range meters days some are few
