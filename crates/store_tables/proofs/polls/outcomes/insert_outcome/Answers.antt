use Rattle.sqlite.specs.Held.{state}
use Rattle.store_tables.proofs.StepLemmas.{steps}
use Rattle.store_tables.specs.declared.polls.rows.OutcomeRow.{OutcomeRow}
use Rattle.store_tables.specs.Polls.Rows.{outcome_shown}
use Rattle.store_tables.proofs.PollsLemmas.Texts as text
use Rattle.store_tables.proofs.PollsLemmas.Writes as writes
use Rattle.store_tables.proofs.polls.outcomes.insert_outcome.Goals as goal

pub returns-clause-does : goal.returns-clause-does
returns-clause-does g c =
    let old = state g.S.Store c.args.tx.now.conn.now in
    let new = state g.S.Store c.execute.new.self.conn.now in
    let o : OutcomeRow = c.args.row in
    steps text.insert_outcome (outcome_shown o) old new c.execute.result _ (rw (c.params-to_sql.ensures, c.params-to_sql-2.ensures, c.params-to_sql-3.ensures, c.params-to_sql-4.ensures, c.number-poll.ensures, c.number-moment.ensures, c.from.ensures, c.from-2.ensures, c.number.ensures, c.code.ensures) at c.execute.ensures.runs)
    c.execute.ensures.survives (writes.insert_outcome old new o c.execute.result)
