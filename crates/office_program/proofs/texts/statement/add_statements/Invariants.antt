use Rattle.office_core.specs.Several.{Keeps}
use Rattle.office_program.proofs.StatementLemmas.{AreStated}
use Rattle.office_program.proofs.texts.statement.add_statements.Given as goal

abbrev pub invariant-loop-row : goal.invariant-loop-row
invariant-loop-row g l = record {
  stated : AreStated g.B.Books.ledger l.zone l.range l.fn.office l.office l.listed l.fn.rows.items l.rows.items l.row-index;
  kept : Keeps g.B.Books.ledger l.fn.office l.office;
}
