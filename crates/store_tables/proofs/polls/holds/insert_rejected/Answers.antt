use Rattle.sqlite.specs.Held.{state}
use Rattle.store_tables.proofs.StepLemmas.{steps}
use Rattle.store_tables.specs.Polls.Rows.{Held, hold_shown}
use Rattle.store_tables.proofs.PollsLemmas.Texts as text
use Rattle.store_tables.proofs.PollsLemmas.Writes as writes
use Rattle.store_tables.proofs.polls.holds.insert_rejected.Goals as goal

pub returns-clause-does : goal.returns-clause-does
returns-clause-does g c =
    let old = state g.S.Store c.args.tx.now.conn.now in
    let new = state g.S.Store c.execute.new.self.conn.now in
    let x : Held = record { meter = c.args.meter.now; row = c.args.hold } in
    steps text.insert_rejected (hold_shown x) old new c.execute.result _ (rw (c.params-to_sql.ensures, c.params-to_sql-2.ensures, c.params-to_sql-3.ensures, c.params-to_sql-4.ensures, c.params-to_sql-5.ensures, c.params-to_sql-6.ensures, c.params-to_sql-7.ensures, c.number-place.ensures, c.number-poll.ensures, c.number-moment.ensures, c.signed-sf.ensures, c.from.ensures, c.number.ensures) at c.execute.ensures.runs)
    c.execute.ensures.survives (writes.insert_rejected old new x c.execute.result)
