use Rattle.sqlite.specs.Held.{state}
use Rattle.store_tables.specs.Schema.{books_schema}
use Rattle.store_tables.proofs.Failures.{reported, query_fails_inside}
use Rattle.store_tables.proofs.StepLemmas.{asks_inside}
use Rattle.store_tables.proofs.DevicesLemmas.Texts as text
use Rattle.store_tables.proofs.DevicesLemmas.Asks as asking
use Rattle.store_tables.proofs.devices.devices.last_device_rows.Goals as goal

pub returns-clause-asks : goal.returns-clause-asks
returns-clause-asks g c =
    asks_inside g.S.Store text.last_device _ c.args.tx.now.conn.now c.query_all.new.self.conn.now c.query_all.result (λ rows. rows.items) text.last_device_plain c.query_all.ensures.ok c.query_all.ensures.err c.query_all.ensures.survives

pub returns-clause-shows : goal.returns-clause-shows
returns-clause-shows g c clean content has xs are =
    reported c.query_all.result _ _ _ _ (λ rows h. asking.last_device (state g.S.Store c.args.tx.now.conn.now) (state g.S.Store c.query_all.new.self.conn.now) content xs rows.items has are h)
    (λ e h. query_fails_inside books_schema text.last_device _ text.last_device_suits (state g.S.Store c.args.tx.now.conn.now) (state g.S.Store c.query_all.new.self.conn.now) has.schema e h) (c.query_all.ensures.ok clean) (c.query_all.ensures.err clean)
