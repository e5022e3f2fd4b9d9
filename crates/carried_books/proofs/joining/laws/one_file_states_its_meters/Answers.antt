use Rattle.carried_books.proofs.JoiningLemmas.OneFile.{one_file_states}
use Rattle.carried_books.proofs.joining.laws.one_file_states_its_meters.Goals as goal

pub returns : goal.returns
returns c = one_file_states c.names_are_distinct.ensures
