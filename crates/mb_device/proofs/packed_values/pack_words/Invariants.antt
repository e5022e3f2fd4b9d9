use Rattle.std.proofs.Common.{◌≡◌, ◌*◌, take, map}
use Rattle.mb_wire.specs.Bytes.{word_bytes}
use Rattle.mb_device.specs.Device.{kept_value}
use Rattle.mb_device.proofs.packed_values.pack_words.Given as goal

abbrev pub invariant-loop-i : goal.invariant-loop-i
invariant-loop-i l = take (2 * l.i) l.out ≡ word_bytes (map kept_value (take l.i l.values))
