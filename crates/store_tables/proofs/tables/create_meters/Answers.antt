use Rattle.std.proofs.Common.{Ok, arith}
use Rattle.sqlite.specs.Held.{state}
use Rattle.store_tables.proofs.Grown.{grows_then}
use Rattle.store_tables.proofs.tables.create_meters.Goals as goal

pub returns-clause-does : goal.returns-clause-does
returns-clause-does g c =
    let up_to_6 = grows_then 4 5 6 (omega arith) (state g.S.Store c.args.tx.now.conn.now) (state g.S.Store c.create_installations.new.tx.conn.now) (state g.S.Store c.create_entries.new.tx.conn.now) c.in_ok-create_installations.field-0 (Ok c.in_ok-create_entries.field-0) c.in_ok-create_installations.ensures.does c.in_ok-create_entries.ensures.does in
    let up_to_7 = grows_then 4 6 7 (omega arith) (state g.S.Store c.args.tx.now.conn.now) (state g.S.Store c.create_entries.new.tx.conn.now) (state g.S.Store c.create_polls.new.tx.conn.now) c.in_ok-create_entries.field-0 (Ok c.in_ok-create_polls.field-0) up_to_6 c.in_ok-create_polls.ensures.does in
    grows_then 4 7 8 (omega arith) (state g.S.Store c.args.tx.now.conn.now) (state g.S.Store c.create_polls.new.tx.conn.now) (state g.S.Store c.create_holds.new.tx.conn.now) c.in_ok-create_polls.field-0 c.create_holds.result up_to_7 c.create_holds.ensures.does
