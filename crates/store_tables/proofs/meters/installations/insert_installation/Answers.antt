use Rattle.sqlite.specs.Held.{state}
use Rattle.store_tables.proofs.StepLemmas.{steps}
use Rattle.store_tables.specs.Meters.Rows.{Installed, installed_shown}
use Rattle.store_tables.proofs.MetersLemmas.Texts as text
use Rattle.store_tables.proofs.MetersLemmas.Writes as writes
use Rattle.store_tables.proofs.meters.installations.insert_installation.Goals as goal

pub returns-clause-does : goal.returns-clause-does
returns-clause-does g c =
    let old = state g.S.Store c.args.tx.now.conn.now in
    let new = state g.S.Store c.execute.new.self.conn.now in
    let i : Installed = record { meter = c.args.meter.now; register = c.args.register.now; row = c.args.row } in
    steps text.insert_installation (installed_shown i) old new c.execute.result _ (rw (c.params-to_sql.ensures, c.params-to_sql-2.ensures, c.params-to_sql-3.ensures, c.params-to_sql-4.ensures, c.params-to_sql-5.ensures, c.params-to_sql-6.ensures, c.params-to_sql-7.ensures, c.params-to_sql-8.ensures, c.params-to_sql-9.ensures, c.number-place.ensures, c.number-ceiling.ensures, c.flag-ended.ensures, c.number-moment.ensures, c.signed-sf.ensures, c.number-total.ensures) at c.execute.ensures.runs)
    c.execute.ensures.survives (writes.insert_installation old new i c.execute.result)
