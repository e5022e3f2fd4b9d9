use Rattle.std.proofs.Common.{arith}
use Rattle.sqlite.specs.Held.{state}
use Rattle.store_tables.proofs.Grown.{grows_then}
use Rattle.store_tables.proofs.tables.create_last.Goals as goal

pub returns-clause-does : goal.returns-clause-does
returns-clause-does g c =
    grows_then 11 12 13 (omega arith) (state g.S.Store c.args.tx.now.conn.now) (state g.S.Store c.create_ranges.new.tx.conn.now) (state g.S.Store c.create_voids.new.tx.conn.now) c.in_ok-create_ranges.field-0 c.create_voids.result c.in_ok-create_ranges.ensures.does c.create_voids.ensures.does
