use Rattle.std.proofs.Common.{List, Ok, None, map, take}
use Rattle.office_events.specs.declared.facts.Fact.{Fact}
use Rattle.office_books.specs.Ledgers.{Consults}
use Rattle.carried_books.specs.Joining.Meters.{AddMeters}
use Rattle.carried_books.specs.Joining.Statements.{ReportsAll, stands_of}
use Rattle.carried_books.proofs.joining.statements.add_listed.Given as goal

abbrev pub invariant-loop-row : goal.invariant-loop-row
invariant-loop-row g l = record {
  joins : AddMeters (map stands_of l.fn.known.items) (take l.row-index l.listed) (map stands_of l.known.items);
  reports : (facts : List Fact) → (g.B.Books.ledger l.fn.books).holds facts → (g.B.Books.ledger l.books).is_clean
      → ReportsAll l.zone l.range facts (take l.row-index l.listed) l.fn.known.items l.known.items None;
  reads : Consults {T = Unit {0}} (g.B.Books.ledger l.fn.books) (g.B.Books.ledger l.books) (Ok tt);
}
