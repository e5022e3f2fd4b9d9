use Rattle.std.proofs.Common.{length}
use Rattle.command_io.specs.Lines.{speaking_lines}
use Rattle.office_core.specs.Standing.{After}
use Rattle.office_program.specs.Between.{desk_of}
use Rattle.office_program.specs.Passing.{Lasts}
use Rattle.office_program.specs.Entering.Lines.{reporting_of}
use Rattle.office_program.proofs.EnteringLemmas.Course.{Underway}
use Rattle.office_program.proofs.entering.entered.enter_text.Given as goal

abbrev pub invariant-loop-line : goal.invariant-loop-line
invariant-loop-line g l =
    Lasts g.B.Books.ledger l.fn.office l.office
    × After g.B.Books.ledger l.fn.office l.office (λ past. Underway g.B.Books.ledger (reporting_of g.F.NamedFiles l.fn.files) l.fn.caller
    (speaking_lines l.fn.text) l.lines past l.fn.first (desk_of g.B.Books g.C.Clock g.W.Write l.fn.office l.fn.clock l.fn.output)
    (desk_of g.B.Books g.C.Clock g.W.Write l.office l.clock l.output) l.progress l.office)

abbrev pub decreases-loop-line : goal.decreases-loop-line
decreases-loop-line g l = length l.lines
