use Rattle.std.proofs.Common.{ℕ, ◌+◌, ◌*◌, nat_lt, if◌then◌else◌, ◌∙◌}
use Rattle.energy_core.specs.Value.{unit_of}
use Rattle.energy_core.specs.Verdict.{distance}
use Rattle.energy_core.proofs.Turns.{turned}
use Rattle.energy_core.proofs.Acceptance.{gained}
use Rattle.energy_core.proofs.verdicts.energy_to.Goals as goal

pub returns-clause-value : goal.returns-clause-value
returns-clause-value c =
    let range = c.args.range in
    let from : ℕ = c.args.last.now.raw in
    let to : ℕ = c.args.reading.now.raw in
    c.energy.ensures.value
    ∙ (rw c.requires.rolls
    (gained (unit_of c.args.last.now.sf) from (distance range from to) (to + (if nat_lt to from then 1 else 0) * range)
    (turned range from to c.requires.from c.requires.to).1))
