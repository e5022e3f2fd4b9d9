use Rattle.std.proofs.Common.{arith, ◌≤◌}
use Rattle.poll_core.proofs.Readiness.{ready_by}
use Rattle.poll_core.specs.Inside.{state_of}
use Rattle.poll_core.proofs.session.Session.ready.Goals as goal

pub returns-clause-ready : goal.returns-clause-ready
returns-clause-ready c =
    let few : c.room.result ≤ 16 = omega (arith, c.room.ensures.few, c.self.invariant.window) in
    rw (← c.self.view_is) (ready_by (state_of c.self.inside.inner) _ few c.room.ensures.room)
