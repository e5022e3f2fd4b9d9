use Rattle.office_core.specs.Taking.{failures_of}
use Rattle.office_program.specs.Passing.{Lasts}
use Rattle.office_program.specs.Driver.Going.{scene}
use Rattle.office_program.proofs.DriverLemmas.Steps.{Comes}
use Rattle.office_program.proofs.driver.turns.settle.Given as goal

abbrev pub invariant-loop-step : goal.invariant-loop-step
invariant-loop-step g l = record {
  comes : Comes g.B.Books.ledger g.V.Observer.sees l.fn.at l._step
      (scene l.fn.office (failures_of g.B.Books.ledger l.fn.office) l.fn.rounds l.fn.observer)
      (scene l.office (failures_of g.B.Books.ledger l.office) l.rounds l.observer);
  lasts : Lasts g.B.Books.ledger l.fn.office l.office;
}
