use Rattle.std.proofs.Common.{◌∙◌}
use Rattle.memory_books.specs.Tables.Places.{has_key, places_of}
use Rattle.memory_books.proofs.TablesLemmas.Standing.{last_in_turn}
use Rattle.memory_books.proofs.tables.places.Places.latest.Goals as goal

pub returns : goal.returns
returns c = λ kind known are.
    c.copied.ensures ∙ c.last.ensures.value ∙ last_in_turn (places_of (has_key kind c.args.key) known) c.all.result.now (c.all.ensures kind known are)
