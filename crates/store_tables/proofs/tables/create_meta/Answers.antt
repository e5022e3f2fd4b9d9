use Rattle.std.proofs.Common.{refl}
use Rattle.sqlite.specs.Held.{state}
use Rattle.store_tables.specs.Schema.{meta_table}
use Rattle.store_tables.proofs.Grown.{creates}
use Rattle.store_tables.proofs.Texts as text
use Rattle.store_tables.proofs.tables.create_meta.Goals as goal

pub returns-clause-does : goal.returns-clause-does
returns-clause-does g c =
    creates 0 text.meta (record meta_table { tree = 0 }) text.meta_is text.meta_plain refl refl refl (state g.S.Store c.args.tx.now.conn.now) (state g.S.Store c.execute.new.self.conn.now) c.execute.result c.execute.ensures.runs c.execute.ensures.survives
