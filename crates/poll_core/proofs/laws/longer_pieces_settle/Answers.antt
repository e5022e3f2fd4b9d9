use Rattle.poll_core.proofs.LongerPieces.{longer_settles}
use Rattle.poll_core.proofs.laws.longer_pieces_settle.Goals as goal

pub returns : goal.returns
returns c = longer_settles (record { exists = c.one_reading.ensures.exists; only = c.one_reading.ensures.only })
