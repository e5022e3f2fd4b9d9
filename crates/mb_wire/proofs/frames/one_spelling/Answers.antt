use Rattle.mb_wire.proofs.Spelled.{same_fields, spelled_again}
use Rattle.mb_wire.proofs.frames.one_spelling.Goals as goal

pub returns-clause-spelled : goal.returns-clause-spelled
returns-clause-spelled c = λ bytes own. spelled_again bytes own.0 own.1 own.2

pub returns-clause-same : goal.returns-clause-same
returns-clause-same c = λ one other own other_own. same_fields one other own.0 own.1 own.2 other_own.0 other_own.1 other_own.2
