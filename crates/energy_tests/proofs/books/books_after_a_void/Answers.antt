use Rattle.energy_tests.proofs.House.{house_account}
use Rattle.energy_tests.proofs.books.books_after_a_void.Goals as goal

pub tally_after-tally-requires-clause-account : goal.tally_after-tally-requires-clause-account
tally_after-tally-requires-clause-account g c = house_account
