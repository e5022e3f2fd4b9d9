use Rattle.carried_books.proofs.CarryingLemmas.Recorded.{recorded}
use Rattle.carried_books.proofs.carrying.laws.commands_record_the_same.Goals as goal

pub returns : goal.returns
returns c = recorded
