use Rattle.std.proofs.Common.{◌≡◌, length}
use Rattle.sun_chain.specs.Image.{word_in}
use Rattle.sunspec_text.specs.Chains.ImageLines.{nothing_read, words_reported}
use Rattle.command_io.specs.Lines.{speaking_lines}
use Rattle.sunspec_text.proofs.chains.image_lines.load.Given as goal

abbrev pub invariant-loop-line : goal.invariant-loop-line
invariant-loop-line l = words_reported nothing_read (speaking_lines l.fn.text) ≡ words_reported (word_in l.image) l.lines

abbrev pub decreases-loop-line : goal.decreases-loop-line
decreases-loop-line l = length l.lines
