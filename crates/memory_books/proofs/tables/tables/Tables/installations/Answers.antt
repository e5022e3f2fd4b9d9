use Rattle.std.proofs.Common.{◌∙◌, List, map, reverse, ap}
use Rattle.std.specs.List.{filter_map}
use Rattle.office_events.specs.declared.facts.Fact.{Fact}
use Rattle.office_books.specs.Meters.{installation_of}
use Rattle.memory_books.specs.declared.tables.keys.Key.{Key}
use Rattle.memory_books.specs.declared.tables.places.Kind.TheVariants.{RegisterOpenings}
use Rattle.memory_books.specs.Tables.Lookups.{opening_at}
use Rattle.memory_books.specs.Tables.Places.{has_key, places_of}
use Rattle.memory_books.proofs.TablesLemmas.Found.{if_ok_then, openings_found}
use Rattle.memory_books.proofs.tables.tables.Tables.installations.Goals as goal

pub returns : goal.returns
returns c = λ known is lawful whole.
    if_ok_then c.installations_there.result
    (λ v are.
    are
    ∙ ap (λ (fs : List Fact). map (installation_of known) (filter_map (opening_at fs) c.all.result.now)) is
    ∙ ap (λ places. map (installation_of known) (filter_map (opening_at (reverse known)) places))
    (c.all.ensures RegisterOpenings known whole.openings
    ∙ ap (λ (key : Key). reverse (places_of (has_key RegisterOpenings key) known)) c.named.ensures)
    ∙ ap (map (installation_of known)) (openings_found known c.args.register.now))
    (c.installations_there.ensures known is lawful whole)
