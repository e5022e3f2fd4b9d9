use Rattle.office_core.specs.Several.{Keeps}
use Rattle.carried_books.proofs.JoiningLemmas.Offices.{HaveFirst}
use Rattle.carried_books.proofs.joining.offices.add_meters_within.Given as goal

abbrev pub invariant-loop-row : goal.invariant-loop-row
invariant-loop-row g l = record {
  keeps : Keeps g.B.Books.ledger l.initial.office l.office;
  took : HaveFirst g.B.Books.ledger l.initial.office l.office l.meters l.row-index l.span l.initial.days l.days;
}
