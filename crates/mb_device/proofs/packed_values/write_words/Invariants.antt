use Rattle.std.proofs.Common.{◌≡◌, ◌+◌, drop}
use Rattle.mb_wire.specs.Bytes.{words_of}
use Rattle.mb_device.specs.Maps.{all_written}
use Rattle.mb_device.proofs.packed_values.write_words.Given as goal

abbrev pub invariant-loop-i : goal.invariant-loop-i
invariant-loop-i l = all_written l.table (l.place + l.i) (drop l.i (words_of l.bytes)) ≡ all_written l.initial.table l.place (words_of l.bytes)
