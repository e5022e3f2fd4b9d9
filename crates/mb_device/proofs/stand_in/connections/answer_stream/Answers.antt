use Rattle.std.proofs.Common.{refl}
use Rattle.mb_device.proofs.StandInLemmas.Exchanging.{answered, nothing_done}
use Rattle.mb_device.proofs.stand_in.connections.answer_stream.Goals as goal

pub returns : goal.returns
returns g c = answered _ _ _ _ _ c.answer_one-answered.ensures.serves.serves.answered

pub returns-in_default : goal.returns-in_default
returns-in_default g c = nothing_done _ _ refl
