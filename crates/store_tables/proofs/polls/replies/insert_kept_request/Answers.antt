use Rattle.sqlite.specs.Held.{state}
use Rattle.store_tables.proofs.StepLemmas.{steps}
use Rattle.store_tables.specs.Polls.Rows.{Kept, reply_columns}
use Rattle.store_tables.proofs.PollsLemmas.Texts as text
use Rattle.store_tables.proofs.PollsLemmas.Writes as writes
use Rattle.store_tables.proofs.polls.replies.insert_kept_request.Goals as goal

pub returns-clause-does : goal.returns-clause-does
returns-clause-does g c =
    let old = state g.S.Store c.args.tx.now.conn.now in
    let new = state g.S.Store c.execute.new.self.conn.now in
    let k : Kept = record { caller = c.args.caller.now; number = c.args.number; request = c.args.request.now; kind = c.args.kind; moment = c.args.moment } in
    steps text.insert_kept_request (reply_columns k) old new c.execute.result _ (rw (c.params-to_sql.ensures, c.params-to_sql-2.ensures, c.params-to_sql-3.ensures, c.params-to_sql-4.ensures, c.params-to_sql-5.ensures, c.number-number.ensures, c.number-moment.ensures, c.word_of.ensures) at c.execute.ensures.runs)
    c.execute.ensures.survives (writes.insert_kept_request old new k c.execute.result)
