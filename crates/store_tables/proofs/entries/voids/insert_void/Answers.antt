use Rattle.sqlite.specs.Held.{state}
use Rattle.store_tables.proofs.StepLemmas.{steps}
use Rattle.store_tables.specs.Entries.Rows.{Voided, voided_columns}
use Rattle.store_tables.proofs.EntriesLemmas.Texts as text
use Rattle.store_tables.proofs.EntriesLemmas.Writes as writes
use Rattle.store_tables.proofs.entries.voids.insert_void.Goals as goal

pub returns-clause-does : goal.returns-clause-does
returns-clause-does g c =
    let old = state g.S.Store c.args.tx.now.conn.now in
    let new = state g.S.Store c.execute.new.self.conn.now in
    let v : Voided = record { meter = c.args.meter.now; place = c.args.place; moment = c.args.moment } in
    steps text.insert_void (voided_columns v) old new c.execute.result _ (rw (c.params-to_sql.ensures, c.params-to_sql-2.ensures, c.params-to_sql-3.ensures, c.number-place.ensures, c.number-moment.ensures) at c.execute.ensures.runs)
    c.execute.ensures.survives (writes.insert_void old new v c.execute.result)
