use Rattle.std.proofs.Common.{subst}
use Rattle.office_core.specs.Sessions.Keeping.{KeepsPresent}
use Rattle.office_core.proofs.RefusingLemmas.Rooms.{room_kept}
use Rattle.office_core.proofs.refusing.starts.session_room.Goals as goal

pub returns-in-Some : goal.returns-in-Some
returns-in-Some c device present keeps =
    room_kept device _ present c.ready.result.id c.ready.result.count (subst (λ k. KeepsPresent device k present) c.in-Some.is keeps) c.ready.ensures.ready
