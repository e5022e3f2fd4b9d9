use Rattle.poll_core.proofs.WholeAnswers.{whole}
use Rattle.poll_core.proofs.laws.whole_answers.Goals as goal

pub returns-clause-count : goal.returns-clause-count
returns-clause-count c = whole
