use Rattle.sqlite.specs.Held.{state}
use Rattle.store_tables.proofs.DevicesLemmas.Replaced.{replaced}
use Rattle.store_tables.proofs.devices.points.replace_points.Goals as goal

pub returns-clause-does : goal.returns-clause-does
returns-clause-does g c =
    replaced c.args.device.now c.args.points.now (state g.S.Store c.args.tx.now.conn.now) (state g.S.Store c.delete_points.new.tx.conn.now) (state g.S.Store c.insert_points.new.tx.conn.now) c.in_ok-delete_points.field-0 c.insert_points.result
    c.in_ok-delete_points.ensures.does c.insert_points.ensures.does
