use Rattle.std.proofs.Common.{[]}
use Rattle.sqlite.specs.Held.{state}
use Rattle.store_tables.proofs.StepLemmas.{steps}
use Rattle.store_tables.proofs.Texts as text
use Rattle.store_tables.proofs.Writes as writes
use Rattle.store_tables.proofs.meta.set_version.Goals as goal

pub returns-clause-does : goal.returns-clause-does
returns-clause-does g c =
    let old = state g.S.Store c.args.tx.now.conn.now in
    let new = state g.S.Store c.execute.new.self.conn.now in
    steps text.set_version [] old new c.execute.result _ c.execute.ensures.runs c.execute.ensures.survives (writes.set_version old new c.execute.result)
