use Rattle.sqlite.specs.Held.{state}
use Rattle.store_tables.proofs.StepLemmas.{steps}
use Rattle.store_tables.proofs.EntriesLemmas.Texts as text
use Rattle.store_tables.proofs.EntriesLemmas.Writes as writes
use Rattle.store_tables.proofs.entries.entries.set_rollovers.Goals as goal

pub returns-clause-does : goal.returns-clause-does
returns-clause-does g c =
    let old = state g.S.Store c.args.tx.now.conn.now in
    let new = state g.S.Store c.execute.new.self.conn.now in
    steps text.set_rollovers (writes.roll_params c.args.meter.now c.args.place c.args.rolls) old new c.execute.result _ (rw (c.params-to_sql.ensures, c.params-to_sql-2.ensures, c.params-to_sql-3.ensures, c.number-place.ensures, c.from.ensures) at c.execute.ensures.runs)
    c.execute.ensures.survives (writes.set_rollovers c.args.meter.now c.args.place c.args.rolls old new c.execute.result)
