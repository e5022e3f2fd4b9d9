use Rattle.sqlite.specs.Held.{state}
use Rattle.store_tables.proofs.StepLemmas.{steps}
use Rattle.store_tables.specs.Devices.Rows.{Registered, register_shown}
use Rattle.store_tables.proofs.DevicesLemmas.Texts as text
use Rattle.store_tables.proofs.DevicesLemmas.Writes as writes
use Rattle.store_tables.proofs.devices.registers.insert_register.Goals as goal

pub returns-clause-does : goal.returns-clause-does
returns-clause-does g c =
    let old = state g.S.Store c.args.tx.now.conn.now in
    let new = state g.S.Store c.execute.new.self.conn.now in
    let x : Registered = record { name = c.args.name.now; device = c.args.device.now; row = c.args.register } in
    steps text.insert_register (register_shown x) old new c.execute.result _ (rw (c.params-to_sql.ensures, c.params-to_sql-2.ensures, c.params-to_sql-3.ensures, c.params-to_sql-4.ensures, c.params-to_sql-5.ensures, c.params-to_sql-6.ensures, c.params-to_sql-7.ensures, c.number-place.ensures, c.value-scale.ensures, c.from.ensures, c.from-2.ensures, c.code.ensures, c.kind.ensures) at c.execute.ensures.runs)
    c.execute.ensures.survives (writes.insert_register old new x c.execute.result)
