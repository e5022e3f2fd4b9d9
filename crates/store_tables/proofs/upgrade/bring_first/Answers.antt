use Rattle.sqlite.specs.Held.{state}
use Rattle.store_tables.proofs.Brought.{brought_first}
use Rattle.store_tables.proofs.upgrade.bring_first.Goals as goal

pub returns-clause-does : goal.returns-clause-does
returns-clause-does g c =
    brought_first c.args.meters.now (state g.S.Store c.args.tx.now.conn.now) (state g.S.Store c.create_last.new.tx.conn.now) (state g.S.Store c.give_ranges.new.tx.conn.now) (state g.S.Store c.set_version.new.tx.conn.now)
    c.in_ok-create_last.field-0 c.set_version.result c.in_ok-create_last.ensures.does c.in_ok-give_ranges.ensures.does c.set_version.ensures.does
