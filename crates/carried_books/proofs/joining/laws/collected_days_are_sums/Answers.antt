use Rattle.carried_books.proofs.JoiningLemmas.Collected.{collected_days}
use Rattle.carried_books.proofs.joining.laws.collected_days_are_sums.Goals as goal

pub returns : goal.returns
returns c = collected_days
