use Rattle.mb_wire.proofs.Giving.{Gives-then}
use Rattle.mb_wire.proofs.link.+give_all.Goals as goal

pub returns-clause-given : goal.returns-clause-given
returns-clause-given g t c = Gives-then c.give_all.result _ _ _ c.args.bytes.now c.in_ok-count.count c.in_ok-count.ensures.bytes c.give_all.ensures.given
