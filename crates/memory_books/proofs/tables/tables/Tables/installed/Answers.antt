use Rattle.std.proofs.Common.{◌∙◌, Some, None}
use Rattle.memory_books.specs.declared.tables.places.Kind.TheVariants.{RegisterOpenings}
use Rattle.memory_books.specs.Tables.Keys.{named}
use Rattle.memory_books.specs.Tables.Lookups.{opening_at}
use Rattle.memory_books.proofs.TablesLemmas.Found.{looked_up, opening_found}
use Rattle.memory_books.proofs.tables.tables.Tables.installed.Goals as goal

pub returns-in-Some : goal.returns-in-Some
returns-in-Some c = λ known is whole.
    c.opening_at.ensures
    ∙ looked_up opening_at c.args.facts.now known (Some c.in-Some.place) c.named.result (named c.args.register.now) RegisterOpenings is
    (c.in-Some.ensures RegisterOpenings known whole.openings) c.named.ensures
    ∙ opening_found known c.args.register.now

pub returns-in-None : goal.returns-in-None
returns-in-None c = λ known is whole.
    looked_up opening_at c.args.facts.now known None c.named.result (named c.args.register.now) RegisterOpenings is
    (c.in-None.ensures RegisterOpenings known whole.openings) c.named.ensures
    ∙ opening_found known c.args.register.now
