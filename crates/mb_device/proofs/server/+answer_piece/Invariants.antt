use Rattle.std.proofs.Common.{length}
use Rattle.mb_device.proofs.server.+answer_piece.Given as goal

abbrev pub decreases-answer_piece : goal.decreases-answer_piece
decreases-answer_piece g l = length l.piece.now
