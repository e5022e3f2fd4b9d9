use Rattle.std.proofs.Common.{◌∙◌, Some, None}
use Rattle.memory_books.specs.declared.tables.places.Kind.TheVariants.{DeviceLists}
use Rattle.memory_books.specs.Tables.Keys.{named}
use Rattle.memory_books.specs.Tables.Lookups.{list_at}
use Rattle.memory_books.proofs.TablesLemmas.Found.{looked_up, list_found}
use Rattle.memory_books.proofs.tables.tables.Tables.list_among.Goals as goal

pub returns-in-Some : goal.returns-in-Some
returns-in-Some c = λ known is whole.
    c.list_at.ensures
    ∙ looked_up list_at c.args.facts.now known (Some c.in-Some.place) c.named.result (named c.args.device.now) DeviceLists is
    (c.in-Some.ensures DeviceLists known whole.lists) c.named.ensures
    ∙ list_found known c.args.device.now

pub returns-in-None : goal.returns-in-None
returns-in-None c = λ known is whole.
    looked_up list_at c.args.facts.now known None c.named.result (named c.args.device.now) DeviceLists is
    (c.in-None.ensures DeviceLists known whole.lists) c.named.ensures
    ∙ list_found known c.args.device.now
