use Rattle.sqlite.specs.Held.{state}
use Rattle.store_tables.proofs.Brought.{brought_second}
use Rattle.store_tables.proofs.upgrade.bring_second.Goals as goal

pub returns-clause-does : goal.returns-clause-does
returns-clause-does g c =
    brought_second (state g.S.Store c.args.tx.now.conn.now) (state g.S.Store c.create_voids.new.tx.conn.now) (state g.S.Store c.set_version.new.tx.conn.now)
    c.in_ok-create_voids.field-0 c.set_version.result c.in_ok-create_voids.ensures.does c.set_version.ensures.does
