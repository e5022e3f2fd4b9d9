use Rattle.std.proofs.Common.{◌≤◌, ◌*◌, length, drop}
use Rattle.sun_points.proofs.Texts.{ShownUpTo}
use Rattle.sun_points.proofs.text.shown_registers.Given as goal

abbrev pub invariant-loop-word : goal.invariant-loop-word
invariant-loop-word l = record {
  shown : ShownUpTo l.text.items l.words (drop l.word-index l.words);
  few : length l.text.items ≤ 8 * l.word-index;
}
