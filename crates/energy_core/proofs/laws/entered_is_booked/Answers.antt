use Rattle.energy_core.proofs.Bookings.{entered_is_booked as lemma}
use Rattle.energy_core.proofs.laws.entered_is_booked.Goals as goal

pub returns : goal.returns
returns c = lemma
