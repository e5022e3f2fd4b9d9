use Rattle.std.proofs.Common.{refl}
use Rattle.mb_device.proofs.StandInLemmas.Exchanging.{both_done, nothing_done}
use Rattle.script_run.proofs.looping.wires.answer.Goals as goal

pub loop-turn-init : goal.loop-turn-init
loop-turn-init g c = nothing_done _ _ refl

pub returns-in_default : goal.returns-in_default
returns-in_default g c = both_done _ _ _ c.loop-turn.invariant c.answer_turn.ensures.carried_out

pub returns-then-answered-eq0 : goal.returns-then-answered-eq0
returns-then-answered-eq0 g c = both_done _ _ _ c.loop-turn.invariant c.answer_turn.ensures.carried_out

pub loop-turn-preserved : goal.loop-turn-preserved
loop-turn-preserved g c = both_done _ _ _ c.loop-turn.invariant c.answer_turn.ensures.carried_out
