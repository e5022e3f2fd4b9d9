use Rattle.std.proofs.Common.{[]}
use Rattle.std.proofs.lemmas.Result.{IfOk-weaker}
use Rattle.sqlite.specs.Held.{state}
use Rattle.store_tables.proofs.StepLemmas.{asked_kept, plain_in, shown_same, shown_survives}
use Rattle.store_tables.specs.declared.layouts.Layout.TheVariants.{First}
use Rattle.store_tables.specs.Layouts.{schema_of}
use Rattle.store_tables.proofs.Texts as text
use Rattle.store_tables.proofs.Questions.{meter_answer}
use Rattle.store_tables.proofs.upgrade.meter_rows.Goals as goal

pub returns-clause-kept : goal.returns-clause-kept
returns-clause-kept g c clean content has =
    let old = state g.S.Store c.args.conn.now in
    asked_kept text.meter_rows [] old (state g.S.Store c.query_all.new.self) c.query_all.result (λ rows. rows.items) (plain_in (schema_of First) text.meter_rows old.now has.schema text.meter_rows_plain)
    (c.query_all.ensures.ok clean) (c.query_all.ensures.err clean)

pub returns-clause-shows : goal.returns-clause-shows
returns-clause-shows g c clean content has =
    let old = state g.S.Store c.args.conn.now in
    let new = state g.S.Store c.query_all.new.self in
    IfOk-weaker c.query_all.result _ _
    (λ rows h. (shown_same text.meter_rows [] old new rows.items (plain_in (schema_of First) text.meter_rows old.now has.schema text.meter_rows_plain) h, λ is are. meter_answer old new content rows.items has h is are))
    (c.query_all.ensures.ok clean)

pub returns-clause-survives : goal.returns-clause-survives
returns-clause-survives g c content has =
    let old = state g.S.Store c.args.conn.now in
    shown_survives text.meter_rows [] old (state g.S.Store c.query_all.new.self) (plain_in (schema_of First) text.meter_rows old.now has.schema text.meter_rows_plain) c.query_all.ensures.survives
