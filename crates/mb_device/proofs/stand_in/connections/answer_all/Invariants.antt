use Rattle.mb_device.specs.StandIn.Exchanges.{Exchanged}
use Rattle.mb_device.proofs.stand_in.connections.answer_all.Given as goal

abbrev pub invariant-loop-connection : goal.invariant-loop-connection
invariant-loop-connection g l = Exchanged l.fn.bank l.bank
