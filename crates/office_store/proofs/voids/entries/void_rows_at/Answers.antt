use Rattle.sqlite.specs.Held.{state}
use Rattle.store_tables.specs.Schema.{books_schema}
use Rattle.store_tables.proofs.Failures.{reported, query_fails_inside}
use Rattle.store_tables.proofs.StepLemmas.{asks_inside}
use Rattle.office_store.proofs.VoidsLemmas.Texts as text
use Rattle.office_store.proofs.VoidsLemmas.Asking as asking
use Rattle.office_store.proofs.voids.entries.void_rows_at.Goals as goal

pub returns-clause-asks : goal.returns-clause-asks
returns-clause-asks g c =
    asks_inside g.S.Store text.void_at _ c.args.tx.now.conn.now c.query_all.new.self.conn.now c.query_all.result (λ rows. rows.items) text.void_at_plain c.query_all.ensures.ok c.query_all.ensures.err c.query_all.ensures.survives

pub returns-clause-shows : goal.returns-clause-shows
returns-clause-shows g c clean content has xs are =
    reported c.query_all.result _ _ _ _
    (λ rows h. asking.void_at c.args.meter.now c.args.place (state g.S.Store c.args.tx.now.conn.now) (state g.S.Store c.query_all.new.self.conn.now) content xs rows.items has are (rw (c.params-to_sql.ensures, c.params-to_sql-2.ensures, c.number-place.ensures) at h))
    (λ e h. query_fails_inside books_schema text.void_at _ (text.void_at_suits c.args.meter.now c.args.place) (state g.S.Store c.args.tx.now.conn.now) (state g.S.Store c.query_all.new.self.conn.now) has.schema e (rw (c.params-to_sql.ensures, c.params-to_sql-2.ensures, c.number-place.ensures) at h))
    (c.query_all.ensures.ok clean) (c.query_all.ensures.err clean)
