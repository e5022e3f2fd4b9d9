use Rattle.sqlite.specs.Held.{state}
use Rattle.store_tables.proofs.StepLemmas.{steps}
use Rattle.store_tables.specs.Devices.Rows.{Listed, point_columns}
use Rattle.store_tables.proofs.DevicesLemmas.Texts as text
use Rattle.store_tables.proofs.DevicesLemmas.Writes as writes
use Rattle.store_tables.proofs.devices.points.insert_point.Goals as goal

pub returns-clause-does : goal.returns-clause-does
returns-clause-does g c =
    let old = state g.S.Store c.args.tx.now.conn.now in
    let new = state g.S.Store c.execute.new.self.conn.now in
    let p : Listed = record { device = c.args.device.now; name = c.args.name.now; kind = c.args.kind.now; scale = c.args.scale.now; row = c.args.point } in
    steps text.insert_point (point_columns p) old new c.execute.result _ (rw (c.params-to_sql.ensures, c.params-to_sql-2.ensures, c.params-to_sql-3.ensures, c.params-to_sql-4.ensures, c.params-to_sql-5.ensures, c.params-to_sql-6.ensures, c.params-to_sql-7.ensures, c.params-to_sql-8.ensures, c.number-place.ensures, c.from.ensures, c.from-2.ensures, c.from-3.ensures, c.code.ensures) at c.execute.ensures.runs)
    c.execute.ensures.survives (writes.insert_point old new p c.execute.result)
