use Rattle.std.proofs.Common.{◌≡◌, Some, map, take}
use Rattle.command_words.specs.Values.Devices.{device_in, place_of}
use Rattle.command_words.specs.Values.Given.{each_of}
use Rattle.command_words.proofs.values.devices.each_device.Given as goal

abbrev pub invariant-loop-part : goal.invariant-loop-part
invariant-loop-part l =
    Some (map place_of l.devices.items) ≡ each_of device_in (map (λ part. part.now) (take l.part-index l.parts))
