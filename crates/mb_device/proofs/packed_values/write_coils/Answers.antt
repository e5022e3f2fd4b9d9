use Rattle.std.proofs.Common.{arith, sym, map, ◌∙◌}
use Rattle.std.proofs.lemmas.List.{length-map}
use Rattle.mb_wire.specs.Coils.{coils_of}
use Rattle.mb_wire.proofs.Packing.{length-coils_of-whole}
use Rattle.mb_device.specs.Device.{coil_number}
use Rattle.mb_device.proofs.Gathering.{written_more, get-map}
use Rattle.mb_device.proofs.packed_values.write_coils.Goals as goal

pub loop-i-preserved : goal.loop-i-preserved
loop-i-preserved c =
    let coils = coils_of c.args.quantity c.args.bytes.now in
    let long = length-coils_of-whole c.args.quantity c.args.bytes.now c.requires.count in
    let same = length-map coils coil_number in
    written_more c.loop-i.table _ c.args.place c.loop-i.i (map coil_number coils) c.coil_in.result
    (omega (arith, long, same, c.loop-i-test.true, c.from-i-end.ensures)) (c.coil_in.ensures ∙ sym (get-map coil_number coils c.loop-i.i)) c.loop-i.invariant
