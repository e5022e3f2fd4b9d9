use Rattle.std.proofs.Common.{arith}
use Rattle.sun_points.proofs.Texts.{bytes_of-drop, one_word_more}
use Rattle.sun_points.proofs.text.shown_registers.Goals as goal

pub loop-word-preserved : goal.loop-word-preserved
loop-word-preserved c = record {
  shown = one_word_more _ _ _ c.args.words.now _ _ _ _ (bytes_of-drop _ _ c.loop-word-test.true c.to_be_bytes.ensures) c.if-high-eq0.false c.if-low-eq0.false
      c.loop-word.invariant.shown c.append_byte.ensures.shown c.append_byte-in-loop-word.ensures.shown;
  few = omega (arith, c.loop-word.invariant.few, c.append_byte.ensures.few, c.append_byte-in-loop-word.ensures.few);
}
