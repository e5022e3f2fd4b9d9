use Rattle.std.proofs.Common.{length}
use Rattle.command_io.specs.Lines.{speaking_lines}
use Rattle.office_core.specs.Standing.{Stands}
use Rattle.memory_books.specs.Listed.{ledger_of}
use Rattle.office_books.specs.History.{History}
use Rattle.script_run.specs.Looping.Standings.{loop_state, stage_on}
use Rattle.script_run.proofs.LoopingLemmas.Loops.{Ran}
use Rattle.script_run.proofs.looping.text_run.run_lines.Given as goal

abbrev pub invariant-loop-line : goal.invariant-loop-line
invariant-loop-line g l =
    (past : History) → Stands ledger_of past l.fn.run.office
    → Ran (stage_on past (loop_state l.fn.run.office l.fn.run.bank l.fn.run.connected (g.W.Write.contents l.fn.output)))
    (speaking_lines l.fn.text) l.lines (g.W.Write.contents l.fn.output)
    (loop_state l.run.office l.run.bank l.run.connected (g.W.Write.contents l.output))

abbrev pub decreases-loop-line : goal.decreases-loop-line
decreases-loop-line g l = length l.lines
