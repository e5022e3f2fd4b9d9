use Rattle.std.proofs.Common.{◌∙◌, List, reverse, ap, subst}
use Rattle.std.specs.List.{flat_map}
use Rattle.interval_core.specs.declared.shares.Share.{Share}
use Rattle.office_books.specs.Rows.{TakesAll}
use Rattle.office_events.specs.declared.facts.Fact.{Fact}
use Rattle.office_books.specs.Intervals.{rows_of_opening}
use Rattle.memory_books.specs.Tables.IntervalRows.{rows_at, TakesWithin}
use Rattle.memory_books.specs.declared.tables.keys.Key.{Key}
use Rattle.memory_books.specs.declared.tables.places.Kind.TheVariants.{RegisterOpenings}
use Rattle.memory_books.specs.Tables.Places.{has_key, places_of}
use Rattle.memory_books.proofs.TablesLemmas.Found.{openings_found}
use Rattle.memory_books.proofs.tables.tables.Tables.register_intervals.Goals as goal

pub returns-clause-whole : goal.returns-clause-whole
returns-clause-whole g c = λ known is lawful whole.
    let P : List Share → Type 0 = λ rows. TakesAll (TakesWithin g.K.RowSink.takes c.args.span) c.args.sink.now rows c.hand_on_all.new.sink in
    subst P
    (ap (λ (fs : List Fact). rows_at known fs c.all.result.now) is
    ∙ ap (rows_at known (reverse known))
    (c.all.ensures RegisterOpenings known whole.openings
    ∙ ap (λ (key : Key). reverse (places_of (has_key RegisterOpenings key) known)) c.named.ensures)
    ∙ ap (flat_map (rows_of_opening known)) (openings_found known c.args.register.now))
    (c.hand_on_all.ensures.whole known is lawful whole)
