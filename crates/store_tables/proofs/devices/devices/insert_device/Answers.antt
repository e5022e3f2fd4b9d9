use Rattle.sqlite.specs.Held.{state}
use Rattle.store_tables.proofs.StepLemmas.{steps}
use Rattle.store_tables.specs.Devices.Rows.{Added, device_shown}
use Rattle.store_tables.proofs.DevicesLemmas.Texts as text
use Rattle.store_tables.proofs.DevicesLemmas.Writes as writes
use Rattle.store_tables.proofs.devices.devices.insert_device.Goals as goal

pub returns-clause-does : goal.returns-clause-does
returns-clause-does g c =
    let old = state g.S.Store c.args.tx.now.conn.now in
    let new = state g.S.Store c.execute.new.self.conn.now in
    let d : Added = record { name = c.args.name.now; row = c.args.device } in
    steps text.insert_device (device_shown d) old new c.execute.result _ (rw (c.params-to_sql.ensures, c.params-to_sql-2.ensures, c.params-to_sql-3.ensures, c.params-to_sql-4.ensures, c.params-to_sql-5.ensures, c.number-place.ensures, c.from.ensures, c.from-2.ensures, c.from-3.ensures) at c.execute.ensures.runs)
    c.execute.ensures.survives (writes.insert_device old new d c.execute.result)
