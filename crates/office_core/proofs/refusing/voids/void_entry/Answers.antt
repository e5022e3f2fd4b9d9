use Rattle.std.proofs.Common.{◌∙◌}
use Rattle.office_core.proofs.RefusingLemmas.OnVoids.{void_refused_as}
use Rattle.office_core.proofs.refusing.voids.void_entry.Goals as goal

pub returns-clause-found : goal.returns-clause-found
returns-clause-found g c known holds clean slots =
    c.against.ensures.found ∙ void_refused_as slots known c.args.arrival.now c.args.void.now _ (c.in_ok-spot.ensures.found known holds clean)
