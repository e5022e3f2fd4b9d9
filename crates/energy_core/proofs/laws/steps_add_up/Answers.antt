use Rattle.energy_core.proofs.Sums.{balance, sum-steps}
use Rattle.energy_core.proofs.laws.steps_add_up.Goals as goal

pub returns : goal.returns
returns c = record { both_sides = balance; whole = sum-steps }
