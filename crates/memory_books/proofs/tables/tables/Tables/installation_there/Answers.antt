use Rattle.std.proofs.Common.{◌∙◌, sym}
use Rattle.memory_books.proofs.TablesLemmas.Listing.{meter_there}
use Rattle.memory_books.proofs.tables.tables.Tables.installation_there.Goals as goal

pub returns : goal.returns
returns c = λ known is lawful whole.
    c.meter.ensures.found known lawful whole
    ∙ meter_there known c.args.facts.now lawful is c.args.place c.in_ok-opening.opening (sym c.in_ok-opening.ensures)
