use Rattle.std.proofs.Common.{◌*◌, List, Ok}
use Rattle.office_events.specs.declared.facts.Fact.{Fact}
use Rattle.office_books.specs.Ledgers.{Consults}
use Rattle.carried_books.proofs.JoiningLemmas.KeptMeters.{HasTallied}
use Rattle.carried_books.proofs.joining.kept_meters.tally_on.Given as goal

abbrev pub invariant-loop-turn : goal.invariant-loop-turn
invariant-loop-turn g l = record {
  found : (known : List Fact) → (g.B.Books.ledger l.fn.books).holds known → (g.B.Books.ledger l.books).is_clean
      → HasTallied l.zone l.range known l.meter l.goes_on (l.turn * 65536) l.fn.begun l.tally;
  reads : Consults {T = Unit {0}} (g.B.Books.ledger l.fn.books) (g.B.Books.ledger l.books) (Ok tt);
}
