use Rattle.std.proofs.Common.{◌≡◌, ◌+◌, drop, map}
use Rattle.mb_wire.specs.Coils.{coils_of}
use Rattle.mb_device.specs.Maps.{all_written}
use Rattle.mb_device.specs.Device.{coil_number}
use Rattle.mb_device.proofs.packed_values.write_coils.Given as goal

abbrev pub invariant-loop-i : goal.invariant-loop-i
invariant-loop-i l = all_written l.table (l.place + l.i) (drop l.i (map coil_number (coils_of l.quantity l.bytes))) ≡ all_written l.initial.table l.place (map coil_number (coils_of l.quantity l.bytes))
