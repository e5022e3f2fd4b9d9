use Rattle.sqlite.specs.Held.{state}
use Rattle.store_tables.proofs.StepLemmas.{steps}
use Rattle.store_tables.proofs.MetersLemmas.Texts as text
use Rattle.store_tables.proofs.MetersLemmas.Writes as writes
use Rattle.store_tables.proofs.meters.installations.update_last.Goals as goal

pub returns-clause-does : goal.returns-clause-does
returns-clause-does g c =
    let old = state g.S.Store c.args.tx.now.conn.now in
    let new = state g.S.Store c.execute.new.self.conn.now in
    steps text.update_last (writes.move_params c.args.meter.now c.args.last) old new c.execute.result _ (rw (c.params-to_sql.ensures, c.params-to_sql-2.ensures, c.params-to_sql-3.ensures, c.params-to_sql-4.ensures, c.params-to_sql-5.ensures, c.number-moment.ensures, c.signed-sf.ensures, c.number-total.ensures) at c.execute.ensures.runs)
    c.execute.ensures.survives (writes.update_last c.args.meter.now c.args.last old new c.execute.result)
