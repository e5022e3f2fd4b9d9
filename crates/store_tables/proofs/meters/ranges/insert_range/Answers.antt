use Rattle.sqlite.specs.Held.{state}
use Rattle.store_tables.proofs.StepLemmas.{steps}
use Rattle.store_tables.specs.Meters.Rows.{Ranged, ranged_columns}
use Rattle.store_tables.proofs.MetersLemmas.Texts as text
use Rattle.store_tables.proofs.MetersLemmas.Writes as writes
use Rattle.store_tables.proofs.meters.ranges.insert_range.Goals as goal

pub returns-clause-does : goal.returns-clause-does
returns-clause-does g c =
    let old = state g.S.Store c.args.tx.now.conn.now in
    let new = state g.S.Store c.execute.new.self.conn.now in
    let x : Ranged = record { meter = c.args.meter.now; range = c.args.range } in
    steps text.insert_range (ranged_columns x) old new c.execute.result _ (rw (c.params-to_sql.ensures, c.params-to_sql-2.ensures, c.number-range.ensures) at c.execute.ensures.runs)
    c.execute.ensures.survives (writes.insert_range old new x c.execute.result)
