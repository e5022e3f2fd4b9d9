use Rattle.std.proofs.Common.{◌≡◌, ◌++◌, List, take, Ok}
use Rattle.office_events.specs.declared.facts.Fact.{Fact}
use Rattle.office_books.specs.Ledgers.{Consults}
use Rattle.carried_books.specs.Carrying.Openings.{open_at_registers}
use Rattle.carried_books.proofs.carrying.openings.add_registers.Given as goal

abbrev pub invariant-loop-register : goal.invariant-loop-register
invariant-loop-register g l = record {
  adds : (known : List Fact) → (g.B.Books.ledger l.fn.books).holds known → (g.B.Books.ledger l.books).is_clean
      → l.rows.items ≡ l.fn.rows.items ++ open_at_registers known (take l.register-index l.registers);
  reads : Consults {T = Unit {0}} (g.B.Books.ledger l.fn.books) (g.B.Books.ledger l.books) (Ok tt);
}
