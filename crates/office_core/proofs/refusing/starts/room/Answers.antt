use Rattle.office_core.proofs.RefusingLemmas.Rooms.{room_found}
use Rattle.office_core.proofs.refusing.starts.room.Goals as goal

pub returns-in-Some-clause-room : goal.returns-in-Some-clause-room
returns-in-Some-clause-room c kept keeps =
    room_found c.args.given.now c.args.slots.now kept c.in-Some.place c.index-slots-place.result c.session_room.result c.session_room.ensures c.in-Some.ensures.inside
    (c.in-Some.ensures.found kept keeps) keeps
