use Rattle.std.proofs.Common.{arith}
use Rattle.sqlite.specs.Held.{state}
use Rattle.store_tables.proofs.Grown.{grows_then}
use Rattle.store_tables.proofs.tables.create_tables.Goals as goal

pub returns-clause-does : goal.returns-clause-does
returns-clause-does g c =
    grows_then 0 11 13 (omega arith) (state g.S.Store c.args.tx.now.conn.now) (state g.S.Store c.create_first.new.tx.conn.now) (state g.S.Store c.create_last.new.tx.conn.now) c.in_ok-create_first.field-0 c.create_last.result c.in_ok-create_first.ensures.does c.create_last.ensures.does
