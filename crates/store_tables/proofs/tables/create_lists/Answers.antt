use Rattle.std.proofs.Common.{Ok, arith}
use Rattle.sqlite.specs.Held.{state}
use Rattle.store_tables.proofs.Grown.{grows_then}
use Rattle.store_tables.proofs.tables.create_lists.Goals as goal

pub returns-clause-does : goal.returns-clause-does
returns-clause-does g c =
    let up_to_2 = grows_then 0 1 2 (omega arith) (state g.S.Store c.args.tx.now.conn.now) (state g.S.Store c.create_meta.new.tx.conn.now) (state g.S.Store c.create_devices.new.tx.conn.now) c.in_ok-create_meta.field-0 (Ok c.in_ok-create_devices.field-0) c.in_ok-create_meta.ensures.does c.in_ok-create_devices.ensures.does in
    let up_to_3 = grows_then 0 2 3 (omega arith) (state g.S.Store c.args.tx.now.conn.now) (state g.S.Store c.create_devices.new.tx.conn.now) (state g.S.Store c.create_points.new.tx.conn.now) c.in_ok-create_devices.field-0 (Ok c.in_ok-create_points.field-0) up_to_2 c.in_ok-create_points.ensures.does in
    grows_then 0 3 4 (omega arith) (state g.S.Store c.args.tx.now.conn.now) (state g.S.Store c.create_points.new.tx.conn.now) (state g.S.Store c.create_registers.new.tx.conn.now) c.in_ok-create_points.field-0 c.create_registers.result up_to_3 c.create_registers.ensures.does
