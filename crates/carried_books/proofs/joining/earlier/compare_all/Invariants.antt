use Rattle.std.proofs.Common.{List, None, Ok, take}
use Rattle.std.specs.Prelude.{All}
use Rattle.office_events.specs.declared.facts.Fact.{Fact}
use Rattle.office_books.specs.Ledgers.{Consults}
use Rattle.carried_books.specs.Joining.Earlier.{HoldsFile}
use Rattle.carried_books.specs.declared.joining.earlier.KeptRegister.{KeptRegister}
use Rattle.carried_books.proofs.joining.earlier.compare_all.Given as goal

abbrev pub invariant-loop-one : goal.invariant-loop-one
invariant-loop-one g l = record {
  holds : (known : List Fact) → (g.B.Books.ledger l.fn.books).holds known → (g.B.Books.ledger l.books).is_clean
      → All (λ (one : KeptRegister). HoldsFile one known None) (take l.one-index l.kept);
  reads : Consults {T = Unit {0}} (g.B.Books.ledger l.fn.books) (g.B.Books.ledger l.books) (Ok tt);
}
