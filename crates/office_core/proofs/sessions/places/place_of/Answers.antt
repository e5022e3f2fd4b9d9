use Rattle.office_core.proofs.SessionsLemmas.Keeping.{slot_found}
use Rattle.office_core.proofs.sessions.places.place_of.Goals as goal

pub returns-clause-found : goal.returns-clause-found
returns-clause-found c kept keeps =
    slot_found c.args.given.now c.args.slots.now kept c.position_of.result c.position_of.ensures keeps
