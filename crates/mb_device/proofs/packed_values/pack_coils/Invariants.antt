use Rattle.std.proofs.Common.{◌≡◌, ◌-◌, ◌*◌, ◌++◌, take, drop, map}
use Rattle.mb_wire.specs.Coils.{packed_in}
use Rattle.mb_device.specs.Device.{is_kept_on}
use Rattle.mb_device.proofs.packed_values.pack_coils.Given as goal

abbrev pub invariant-loop-i : goal.invariant-loop-i
invariant-loop-i l = take l.i l.out ++ packed_in (l.count - l.i) (drop (8 * l.i) (map is_kept_on l.values)) ≡ packed_in l.count (map is_kept_on l.values)
