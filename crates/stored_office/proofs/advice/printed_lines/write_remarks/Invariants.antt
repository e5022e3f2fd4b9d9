use Rattle.std.proofs.Common.{ℕ, List, length}
use Rattle.command_io.specs.Lines.{speaking_lines}
use Rattle.stored_office.specs.Advice.PrintedLines.{Explains}
use Rattle.stored_office.proofs.advice.printed_lines.write_remarks.Given as goal

abbrev pub invariant-loop-line : goal.invariant-loop-line
invariant-loop-line l = (whole : List ℕ) → Explains l.device l.lines l.text.items whole
    → Explains l.fn.device (speaking_lines l.fn.printed) l.fn.text.items whole

abbrev pub decreases-loop-line : goal.decreases-loop-line
decreases-loop-line l = length l.lines
