use Rattle.carried_books.proofs.JoiningLemmas.Reports.{joined_days}
use Rattle.carried_books.proofs.joining.laws.joined_days_agree_with_both_files.Goals as goal

pub returns : goal.returns
returns c = joined_days
