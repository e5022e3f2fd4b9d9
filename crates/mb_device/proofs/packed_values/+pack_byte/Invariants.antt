use Rattle.std.proofs.Common.{length}
use Rattle.mb_device.proofs.packed_values.+pack_byte.Given as goal

abbrev pub decreases-pack_byte : goal.decreases-pack_byte
decreases-pack_byte l = length l.values.now
