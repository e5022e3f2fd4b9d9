use Rattle.std.proofs.Common.{◌∙◌, Some, None}
use Rattle.memory_books.specs.declared.tables.places.Kind.TheVariants.{Registers}
use Rattle.memory_books.specs.Tables.Keys.{named}
use Rattle.memory_books.specs.Tables.Lookups.{register_at}
use Rattle.memory_books.proofs.TablesLemmas.Found.{looked_up, register_found}
use Rattle.memory_books.proofs.tables.tables.Tables.register.Goals as goal

pub returns-in-Some : goal.returns-in-Some
returns-in-Some c = λ known is whole.
    c.register_at.ensures
    ∙ looked_up register_at c.args.facts.now known (Some c.in-Some.place) c.named.result (named c.args.name.now) Registers is
    (c.in-Some.ensures Registers known whole.registers) c.named.ensures
    ∙ register_found known c.args.name.now

pub returns-in-None : goal.returns-in-None
returns-in-None c = λ known is whole.
    looked_up register_at c.args.facts.now known None c.named.result (named c.args.name.now) Registers is
    (c.in-None.ensures Registers known whole.registers) c.named.ensures
    ∙ register_found known c.args.name.now
