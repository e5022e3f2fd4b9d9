use Rattle.sqlite.specs.Held.{state}
use Rattle.store_tables.proofs.StepLemmas.{steps}
use Rattle.store_tables.specs.Polls.Rows.{Started, poll_shown}
use Rattle.store_tables.proofs.PollsLemmas.Texts as text
use Rattle.store_tables.proofs.PollsLemmas.Writes as writes
use Rattle.store_tables.proofs.polls.polls.insert_poll.Goals as goal

pub returns-clause-does : goal.returns-clause-does
returns-clause-does g c =
    let old = state g.S.Store c.args.tx.now.conn.now in
    let new = state g.S.Store c.execute.new.self.conn.now in
    let p : Started = record { device = c.args.device.now; row = c.args.poll } in
    steps text.insert_poll (poll_shown p) old new c.execute.result _ (rw (c.params-to_sql.ensures, c.params-to_sql-2.ensures, c.params-to_sql-3.ensures, c.params-to_sql-4.ensures, c.params-to_sql-5.ensures, c.params-to_sql-6.ensures, c.params-to_sql-7.ensures, c.params-to_sql-8.ensures, c.number-poll_number.ensures, c.number-started.ensures, c.from.ensures, c.from-2.ensures, c.from-3.ensures, c.from-4.ensures, c.from-5.ensures, c.code.ensures) at c.execute.ensures.runs)
    c.execute.ensures.survives (writes.insert_poll old new p c.execute.result)
