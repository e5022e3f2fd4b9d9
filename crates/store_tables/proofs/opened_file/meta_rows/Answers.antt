use Rattle.std.proofs.Common.{[]}
use Rattle.std.proofs.lemmas.Result.{IfOk-weaker}
use Rattle.sqlite.specs.Held.{state}
use Rattle.store_tables.proofs.StepLemmas.{asked_kept, plain_in, shown_same, shown_survives}
use Rattle.store_tables.proofs.Failures.{on_err, query_fails}
use Rattle.store_tables.specs.Layouts.{schema_of}
use Rattle.store_tables.proofs.Texts as text
use Rattle.store_tables.proofs.Questions.{meta_answer}
use Rattle.store_tables.proofs.opened_file.meta_rows.Goals as goal

pub returns-clause-kept : goal.returns-clause-kept
returns-clause-kept g c clean layout content has =
    let old = state g.S.Store c.args.conn.now in
    asked_kept text.meta_rows [] old (state g.S.Store c.query_all.new.self) c.query_all.result (λ rows. rows.items) (plain_in (schema_of layout) text.meta_rows old.now has.schema (text.meta_rows_plain layout))
    (c.query_all.ensures.ok clean) (c.query_all.ensures.err clean)

pub returns-clause-shows : goal.returns-clause-shows
returns-clause-shows g c clean layout content has =
    let old = state g.S.Store c.args.conn.now in
    let new = state g.S.Store c.query_all.new.self in
    IfOk-weaker c.query_all.result _ _
    (λ rows h. (shown_same text.meta_rows [] old new rows.items (plain_in (schema_of layout) text.meta_rows old.now has.schema (text.meta_rows_plain layout)) h, λ m marked. meta_answer layout old new content m rows.items has marked h))
    (c.query_all.ensures.ok clean)

pub returns-clause-survives : goal.returns-clause-survives
returns-clause-survives g c layout content has =
    let old = state g.S.Store c.args.conn.now in
    shown_survives text.meta_rows [] old (state g.S.Store c.query_all.new.self) (plain_in (schema_of layout) text.meta_rows old.now has.schema (text.meta_rows_plain layout)) c.query_all.ensures.survives

pub returns-clause-fails : goal.returns-clause-fails
returns-clause-fails g c clean layout content has =
    on_err c.query_all.result (λ e h. query_fails (schema_of layout) text.meta_rows [] (text.meta_rows_suits layout) (state g.S.Store c.args.conn.now) (state g.S.Store c.query_all.new.self) has.schema e h) (c.query_all.ensures.err clean)
