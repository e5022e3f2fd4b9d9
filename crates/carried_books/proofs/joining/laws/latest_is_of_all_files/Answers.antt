use Rattle.carried_books.proofs.JoiningLemmas.Sites.{latest_is_of_all}
use Rattle.carried_books.proofs.joining.laws.latest_is_of_all_files.Goals as goal

pub returns : goal.returns
returns c = latest_is_of_all c.names_are_distinct.ensures
