use Rattle.energy_core.proofs.Bookings.{account_goes_on as lemma}
use Rattle.energy_core.proofs.laws.accounts_go_on.Goals as goal

pub returns : goal.returns
returns c = lemma
