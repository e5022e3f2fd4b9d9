use Rattle.std.proofs.Common.{length}
use Rattle.sun_chain.proofs.scans.hearing.+hear_piece.Given as goal

abbrev pub decreases-hear_piece : goal.decreases-hear_piece
decreases-hear_piece l = length l.piece.now
