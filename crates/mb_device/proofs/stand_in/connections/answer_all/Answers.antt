use Rattle.std.proofs.Common.{refl}
use Rattle.mb_device.proofs.StandInLemmas.Exchanging.{both_done, nothing_done}
use Rattle.mb_device.proofs.stand_in.connections.answer_all.Goals as goal

pub loop-connection-init : goal.loop-connection-init
loop-connection-init g c = nothing_done _ _ refl

pub loop-connection-preserved : goal.loop-connection-preserved
loop-connection-preserved g c = both_done _ _ _ c.loop-connection.invariant c.answer_stream.ensures
