use Rattle.std.proofs.Common.{length}
use Rattle.mb_wire.proofs.link.+give_all.Given as goal

abbrev pub decreases-give_all : goal.decreases-give_all
decreases-give_all g l = length l.bytes.now
