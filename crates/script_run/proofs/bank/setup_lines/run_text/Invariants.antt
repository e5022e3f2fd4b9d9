use Rattle.std.proofs.Common.{length}
use Rattle.command_io.specs.Lines.{speaking_lines}
use Rattle.script_run.proofs.BankLemmas.Lines.{Ran}
use Rattle.script_run.proofs.bank.setup_lines.run_text.Given as goal

abbrev pub invariant-loop-line : goal.invariant-loop-line
invariant-loop-line g l =
    Ran l.fn.setup (speaking_lines l.fn.text) l.setup l.lines (g.W.Write.contents l.fn.output) (g.W.Write.contents l.output)

abbrev pub decreases-loop-line : goal.decreases-loop-line
decreases-loop-line g l = length l.lines
