use Rattle.office_core.proofs.SessionsLemmas.Keeping.{present_slot}
use Rattle.office_core.proofs.sessions.places.is_connected.Goals as goal

pub returns-in-Some : goal.returns-in-Some
returns-in-Some c kept keeps =
    present_slot c.args.given.now c.args.slots.now kept c.in-Some.place c.index-slots-place.result c.is_some.result c.is_some.ensures c.in-Some.ensures.inside
    (c.in-Some.ensures.found kept keeps) keeps
