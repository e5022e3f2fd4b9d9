use Rattle.std.proofs.Common.{◌≡◌, List, Ok, drop, length, take}
use Rattle.std.specs.List.{AllZip}
use Rattle.office_events.specs.declared.facts.Fact.{Fact}
use Rattle.office_books.specs.Ledgers.{Consults}
use Rattle.carried_books.specs.Joining.Earlier.{HasNext}
use Rattle.carried_books.proofs.joining.earlier.add_all.Given as goal

abbrev pub invariant-loop-place : goal.invariant-loop-place
invariant-loop-place g l = record {
  long : length l.kept.items ≡ length l.fn.kept.items;
  rest : drop l.place l.kept.items ≡ drop l.place l.fn.kept.items;
  joins : (known : List Fact) → (g.B.Books.ledger l.fn.books).holds known → (g.B.Books.ledger l.books).is_clean
      → AllZip (HasNext known) (take l.place l.fn.kept.items) (take l.place l.kept.items);
  reads : Consults {T = Unit {0}} (g.B.Books.ledger l.fn.books) (g.B.Books.ledger l.books) (Ok tt);
}
