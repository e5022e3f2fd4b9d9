use Rattle.mb_device.specs.StandIn.Exchanges.{Exchanged}
use Rattle.script_run.proofs.looping.wires.answer.Given as goal

abbrev pub invariant-loop-turn : goal.invariant-loop-turn
invariant-loop-turn g l = Exchanged l.fn.bank l.bank
