use Rattle.poll_core.proofs.Settles.{closes}
use Rattle.poll_core.specs.Inside.{state_of}
use Rattle.poll_core.proofs.inner.Inner.close.Goals as goal

pub returns-clause-reported : goal.returns-clause-reported
returns-clause-reported c =
    let reported = rw (c.or-self.ensures, c.from.ensures) at c.take_owed-taken.ensures.reported in
    rw (c.call_while-self.ensures, c.or-self.ensures, c.from.ensures) (closes (state_of c.args.self.now) _ _ _ _ reported)
