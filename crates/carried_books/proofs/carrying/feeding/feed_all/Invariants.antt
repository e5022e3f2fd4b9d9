use Rattle.std.proofs.Common.{◌≡◌, ◌++◌}
use Rattle.carried_books.specs.Carrying.Feeding.{Passes}
use Rattle.carried_books.proofs.CarryingLemmas.Fed.{SoFar}
use Rattle.carried_books.proofs.carrying.feeding.feed_all.Given as goal

abbrev pub invariant-loop-timed : goal.invariant-loop-timed
invariant-loop-timed g l = record {
  so_far : SoFar g.B.Books.ledger l.yielded l.fn.office l.office;
  passes : Passes g.B.Books.ledger l.fn.office l.office;
  commands : l.fn.commands.items ≡ l.yielded ++ l.timed-iterator.rest.items;
}
