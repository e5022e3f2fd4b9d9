use Rattle.std.proofs.Common.{◌∙◌, sym, ap}
use Rattle.std.specs.Option.{option_map, option_and_then}
use Rattle.meter_journal.specs.Journal.{row_at}
use Rattle.office_events.specs.declared.facts.Opening.{Opening}
use Rattle.office_books.specs.Laws.{IsRecorded}
use Rattle.office_books.specs.Facts.{same, openings_in}
use Rattle.office_books.specs.Meters.{rows_of, place_in}
use Rattle.memory_books.proofs.TablesLemmas.Known.{found_is_there}
use Rattle.memory_books.proofs.TablesLemmas.MetersComing.{stands_at}
use Rattle.memory_books.proofs.tables.meters.Meters.entry.Goals as goal

pub returns-clause-found : goal.returns-clause-found
returns-clause-found c = λ known lawful are.
    let stands = stands_at known c.args.self.now c.args.name.now c.named-key.result c.in-Some.meter.now c.named-key.ensures c.in-Some.ensures.value are in
    let recorded : IsRecorded known stands.opening =
    found_is_there (λ (o : Opening). same o.meter c.args.name.now) (openings_in known) stands.opening stands.there in
    c.placed.ensures.found known stands.opening lawful recorded (record { row = stands.row; rows = stands.rows })
    ∙ sym (ap (option_and_then (λ (o : Opening). option_map (place_in known o) (row_at c.args.place (rows_of known o)))) stands.there)
