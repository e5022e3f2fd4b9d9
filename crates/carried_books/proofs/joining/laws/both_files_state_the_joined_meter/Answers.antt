use Rattle.carried_books.proofs.JoiningLemmas.BothFiles.{joined_meter}
use Rattle.carried_books.proofs.joining.laws.both_files_state_the_joined_meter.Goals as goal

pub returns : goal.returns
returns c = joined_meter
