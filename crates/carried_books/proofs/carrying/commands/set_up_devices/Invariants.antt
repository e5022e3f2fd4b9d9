use Rattle.std.proofs.Common.{◌≡◌, ◌++◌, List, take, Ok}
use Rattle.office_events.specs.declared.facts.Fact.{Fact}
use Rattle.office_books.specs.Ledgers.{Consults}
use Rattle.carried_books.specs.Carrying.Commands.{set_up_devices}
use Rattle.carried_books.proofs.carrying.commands.set_up_devices.Given as goal

abbrev pub invariant-loop-device : goal.invariant-loop-device
invariant-loop-device g l = record {
  adds : (known : List Fact) → (g.B.Books.ledger l.fn.books).holds known → (g.B.Books.ledger l.books).is_clean
      → l.added.items ≡ l.fn.added.items ++ set_up_devices l.at known (take l.device-index l.devices);
  reads : Consults {T = Unit {0}} (g.B.Books.ledger l.fn.books) (g.B.Books.ledger l.books) (Ok tt);
}
