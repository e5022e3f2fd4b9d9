use Rattle.std.proofs.Common.{◌∙◌}
use Rattle.office_program.proofs.EnteringLemmas.Doubts.{within_is}
use Rattle.office_program.proofs.entering.doubts.is_within_ceiling.Goals as goal

pub returns : goal.returns
returns c =
    within_is c.energy_up_to-energy.result c.from-2.result c.from.result _ _ _ _ _ _ _ c.energy_up_to-energy.ensures.value c.saturating_sub.ensures c.from.ensures
    (c.from-2.ensures ∙ c.saturating_sub-seconds.ensures)
