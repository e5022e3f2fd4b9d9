use Rattle.std.proofs.Common.{List, Ok, take}
use Rattle.office_events.specs.declared.facts.Fact.{Fact}
use Rattle.office_books.specs.Ledgers.{Consults}
use Rattle.carried_books.specs.Joining.Earlier.{AddsRegisters, AreRecorded}
use Rattle.carried_books.proofs.joining.earlier.add_registers.Given as goal

abbrev pub invariant-loop-register : goal.invariant-loop-register
invariant-loop-register g l = record {
  adds : (known : List Fact) → (g.B.Books.ledger l.fn.books).holds known → (g.B.Books.ledger l.books).is_clean
      → AreRecorded l.registers known → AddsRegisters l.zone known (take l.register-index l.registers) l.fn.kept.items l.kept.items;
  reads : Consults {T = Unit {0}} (g.B.Books.ledger l.fn.books) (g.B.Books.ledger l.books) (Ok tt);
}
