use Rattle.office_core.proofs.SessionsLemmas.Keeping.{some_slot}
use Rattle.office_core.proofs.sessions.places.has_device.Goals as goal

pub returns : goal.returns
returns c kept keeps =
    some_slot c.args.given.now c.args.slots.now kept c.place_of.result c.is_some.result c.is_some.ensures c.place_of.ensures.inside (c.place_of.ensures.found kept keeps) keeps
