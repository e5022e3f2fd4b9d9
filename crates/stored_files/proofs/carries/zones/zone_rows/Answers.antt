use Rattle.std.proofs.Common.{[]}
use Rattle.std.proofs.lemmas.Result.{IfOk-weaker}
use Rattle.sqlite.specs.Held.{state}
use Rattle.store_tables.proofs.StepLemmas.{plain_in, shown_same}
use Rattle.store_tables.specs.Layouts.{schema_of}
use Rattle.stored_files.proofs.CarriesLemmas.ZoneText as text
use Rattle.stored_files.proofs.carries.zones.zone_rows.Goals as goal

pub returns-clause-shows : goal.returns-clause-shows
returns-clause-shows g c clean layout content has =
    let old = state g.S.Store c.args.connection.now in
    let new = state g.S.Store c.query_all.new.self in
    IfOk-weaker c.query_all.result _ _
    (λ rows h. (shown_same text.zone_rows [] old new rows.items (plain_in (schema_of layout) text.zone_rows old.now has.schema (text.zone_plain layout)) h, λ m marked. text.zone_answer layout old new content m rows.items has marked h))
    (c.query_all.ensures.ok clean)
