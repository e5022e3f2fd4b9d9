use Rattle.std.proofs.Common.{List, subst}
use Rattle.office_events.specs.declared.facts.Fact.{Fact}
use Rattle.office_core.specs.Commands.Effects.{Tries}
use Rattle.office_core.proofs.CommandsLemmas.Trying.{asked}
use Rattle.office_core.proofs.commands.records.book.Goals as goal

pub returns : goal.returns
returns g c =
    subst (λ (fs : List Fact). Tries (g.B.Books.ledger c.args.books.now) (g.B.Books.ledger c.book.new.self) fs c.book.result)
    c.in_ok-all.ensures (asked (g.B.Books.ledger c.args.books.now) (g.B.Books.ledger c.book.new.self) c.in_ok-all.all.items c.book.result c.book.ensures.books)
