use Rattle.sqlite.specs.Held.{state}
use Rattle.store_tables.proofs.StepLemmas.{steps}
use Rattle.store_tables.specs.Entries.Rows.{Entered, entry_columns}
use Rattle.store_tables.proofs.EntriesLemmas.Texts as text
use Rattle.store_tables.proofs.EntriesLemmas.Writes as writes
use Rattle.store_tables.proofs.entries.entries.insert_entry.Goals as goal

pub returns-clause-does : goal.returns-clause-does
returns-clause-does g c =
    let old = state g.S.Store c.args.tx.now.conn.now in
    let new = state g.S.Store c.execute.new.self.conn.now in
    let e : Entered = record { meter = c.args.meter.now; entry = c.args.entry } in
    steps text.insert_entry (entry_columns e) old new c.execute.result _ (rw (c.params-to_sql.ensures, c.params-to_sql-2.ensures, c.params-to_sql-3.ensures, c.params-to_sql-4.ensures, c.params-to_sql-5.ensures, c.params-to_sql-6.ensures, c.params-to_sql-7.ensures, c.params-to_sql-8.ensures, c.number-place.ensures, c.number-moment.ensures, c.signed-sf.ensures, c.from.ensures, c.from-2.ensures, c.number.ensures) at c.execute.ensures.runs)
    c.execute.ensures.survives (writes.insert_entry old new e c.execute.result)
