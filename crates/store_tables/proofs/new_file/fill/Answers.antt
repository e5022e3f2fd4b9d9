use Rattle.sqlite.specs.Held.{state}
use Rattle.store_tables.proofs.Made.{filled}
use Rattle.store_tables.proofs.new_file.fill.Goals as goal

pub returns-clause-does : goal.returns-clause-does
returns-clause-does g c =
    filled c.args.zone.now (state g.S.Store c.args.tx.now.conn.now) (state g.S.Store c.create_tables.new.tx.conn.now) (state g.S.Store c.insert_meta.new.tx.conn.now) c.in_ok-create_tables.field-0 c.insert_meta.result
    c.in_ok-create_tables.ensures.does c.insert_meta.ensures.does
