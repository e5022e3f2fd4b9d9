use Rattle.std.proofs.Common.{◌≡◌, ◌*◌, List, take, Ok}
use Rattle.office_events.specs.declared.facts.Fact.{Fact}
use Rattle.office_books.specs.Entries.{all_entries}
use Rattle.office_books.specs.Ledgers.{Consults}
use Rattle.carried_books.specs.Carrying.Standings.{last_among}
use Rattle.carried_books.proofs.carrying.standings.last_in_pieces.Given as goal

abbrev pub invariant-loop-turn : goal.invariant-loop-turn
invariant-loop-turn g l = record {
  found : (known : List Fact) → (g.B.Books.ledger l.fn.books).holds known → (g.B.Books.ledger l.books).is_clean
      → l.last ≡ last_among l.until (take (l.turn * 65536) (all_entries known l.meter));
  reads : Consults {T = Unit {0}} (g.B.Books.ledger l.fn.books) (g.B.Books.ledger l.books) (Ok tt);
}
