use Rattle.std.proofs.Common.{Ok, arith}
use Rattle.sqlite.specs.Held.{state}
use Rattle.store_tables.proofs.Grown.{grows_then}
use Rattle.store_tables.proofs.tables.create_first.Goals as goal

pub returns-clause-does : goal.returns-clause-does
returns-clause-does g c =
    let up_to_8 = grows_then 0 4 8 (omega arith) (state g.S.Store c.args.tx.now.conn.now) (state g.S.Store c.create_lists.new.tx.conn.now) (state g.S.Store c.create_meters.new.tx.conn.now) c.in_ok-create_lists.field-0 (Ok c.in_ok-create_meters.field-0) c.in_ok-create_lists.ensures.does c.in_ok-create_meters.ensures.does in
    grows_then 0 8 11 (omega arith) (state g.S.Store c.args.tx.now.conn.now) (state g.S.Store c.create_meters.new.tx.conn.now) (state g.S.Store c.create_answers.new.tx.conn.now) c.in_ok-create_meters.field-0 c.create_answers.result up_to_8 c.create_answers.ensures.does
