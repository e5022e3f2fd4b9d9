use Rattle.energy_tests.proofs.House.{house_account}
use Rattle.energy_tests.proofs.books.rows_after_a_void.Goals as goal

pub interval_rows-requires-clause-account : goal.interval_rows-requires-clause-account
interval_rows-requires-clause-account g c = house_account
