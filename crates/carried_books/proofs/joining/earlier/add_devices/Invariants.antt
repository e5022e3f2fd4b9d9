use Rattle.std.proofs.Common.{List, Ok, take}
use Rattle.office_events.specs.declared.facts.Fact.{Fact}
use Rattle.office_books.specs.Ledgers.{Consults}
use Rattle.carried_books.specs.Joining.Earlier.{AddsDevices}
use Rattle.carried_books.proofs.joining.earlier.add_devices.Given as goal

abbrev pub invariant-loop-device : goal.invariant-loop-device
invariant-loop-device g l = record {
  adds : (known : List Fact) → (g.B.Books.ledger l.fn.books).holds known → (g.B.Books.ledger l.books).is_clean
      → AddsDevices l.zone known (take l.device-index l.devices) l.fn.kept.items l.kept.items;
  reads : Consults {T = Unit {0}} (g.B.Books.ledger l.fn.books) (g.B.Books.ledger l.books) (Ok tt);
}
