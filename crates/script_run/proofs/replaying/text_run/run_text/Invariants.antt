use Rattle.std.proofs.Common.{length}
use Rattle.command_io.specs.Lines.{speaking_lines}
use Rattle.script_run.proofs.ReplayingLemmas.Scripts.{Ran}
use Rattle.script_run.proofs.replaying.text_run.run_text.Given as goal

abbrev pub invariant-loop-line : goal.invariant-loop-line
invariant-loop-line g l =
    Ran l.fn.zone (speaking_lines l.fn.text) l.lines l.office (g.W.Write.contents l.fn.output) (g.W.Write.contents l.output)

abbrev pub decreases-loop-line : goal.decreases-loop-line
decreases-loop-line g l = length l.lines
