use Rattle.std.proofs.Common.{◌*◌, ◌++◌, take, None, ap, ◌∙◌, arith}
use Rattle.mb_wire.specs.Bytes.{word}
use Rattle.mb_device.specs.Device.{kept_value}
use Rattle.mb_device.proofs.Gathering.{words_more}
use Rattle.mb_device.proofs.packed_values.pack_words.Goals as goal

pub loop-i-preserved : goal.loop-i-preserved
loop-i-preserved c =
    words_more kept_value c.args.values.now c.loop-i.i None c.loop-i.out c.write_word.new.out (omega arith)
    (c.write_word.ensures ∙ ap (λ n. take (2 * c.loop-i.i) c.loop-i.out ++ word n) c.unwrap_or.ensures) c.loop-i.invariant
