use Rattle.std.proofs.Common.{◌≡◌, ◌+◌, ◌*◌, ◌/◌, map, length, ap, sym, ◌∙◌, arith}
use Rattle.std.proofs.lemmas.List.{length-map}
use Rattle.mb_wire.specs.Coils.{bytes_for, number_of, packed_in}
use Rattle.mb_device.specs.Device.{is_kept_on}
use Rattle.mb_device.proofs.Gathering.{eight, packed_all, packed_more}
use Rattle.mb_device.proofs.packed_values.pack_coils.Goals as goal

pub loop-i-preserved : goal.loop-i-preserved
loop-i-preserved c =
    let values = c.args.values.now in
    packed_more ((length values + 7) / 8) c.loop-i.i (map is_kept_on values) c.loop-i.out _ c.pack_byte.result (omega arith) (omega (arith, c.told-out))
    (c.pack_byte.ensures.value ∙ ap number_of (eight is_kept_on values (8 * c.loop-i.i) c.min-end.result (omega arith) c.min-end.ensures)) c.loop-i.invariant

pub returns-clause-written : goal.returns-clause-written
returns-clause-written c =
    let values = c.args.values.now in
    let same : length (map is_kept_on values) ≡ length values = length-map values is_kept_on in
    packed_all ((length values + 7) / 8) c.loop-i.i (map is_kept_on values) c.loop-i.out _ (omega arith) c.loop-i.invariant
    ∙ ap (λ n. packed_in (bytes_for n) (map is_kept_on values)) (sym same)
