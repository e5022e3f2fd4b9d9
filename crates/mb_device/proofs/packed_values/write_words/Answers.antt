use Rattle.std.proofs.Common.{arith}
use Rattle.mb_wire.specs.Bytes.{words_of}
use Rattle.mb_wire.proofs.Words.{length-words_of}
use Rattle.mb_device.proofs.Gathering.{written_more, written_all}
use Rattle.mb_device.proofs.packed_values.write_words.Goals as goal

pub loop-i-preserved : goal.loop-i-preserved
loop-i-preserved c =
    written_more c.loop-i.table _ c.args.place c.loop-i.i (words_of c.args.bytes.now) c.word.result
    (omega (arith, length-words_of c.args.bytes.now, c.loop-i-test.true)) c.word.ensures c.loop-i.invariant

pub returns : goal.returns
returns c =
    written_all c.loop-i.table _ c.args.place c.loop-i.i (words_of c.args.bytes.now)
    (omega (arith, length-words_of c.args.bytes.now, c.loop-i-test.false)) c.loop-i.invariant
