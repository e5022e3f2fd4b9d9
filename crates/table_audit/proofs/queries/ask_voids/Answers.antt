use Rattle.sqlite.specs.Held.{state}
use Rattle.store_tables.specs.Schema.{books_schema}
use Rattle.store_tables.proofs.Failures.{reported, query_fails}
use Rattle.store_tables.proofs.StepLemmas.{asks}
use Rattle.table_audit.proofs.SqlTexts as text
use Rattle.table_audit.proofs.Asks as asking
use Rattle.table_audit.proofs.queries.ask_voids.Goals as goal

pub returns-clause-asks : goal.returns-clause-asks
returns-clause-asks g c =
    asks g.S.Store text.void_rows _ c.args.conn.now c.query_all.new.self c.query_all.result (λ rows. rows.items) text.void_rows_plain c.query_all.ensures.ok c.query_all.ensures.err c.query_all.ensures.mode c.query_all.ensures.survives

pub returns-clause-shows : goal.returns-clause-shows
returns-clause-shows g c clean content has xs are =
    reported c.query_all.result _ _ _ _ (λ rows h. asking.void_rows c.args.meter.now (state g.S.Store c.args.conn.now) (state g.S.Store c.query_all.new.self) content xs rows.items has are (rw (c.params-to_sql.ensures) at h))
    (λ e h. query_fails books_schema text.void_rows _ (text.void_rows_suits c.args.meter.now) (state g.S.Store c.args.conn.now) (state g.S.Store c.query_all.new.self) has.schema e (rw (c.params-to_sql.ensures) at h)) (c.query_all.ensures.ok clean) (c.query_all.ensures.err clean)
