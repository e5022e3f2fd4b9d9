use Rattle.std.proofs.Common.{Ok, arith}
use Rattle.sqlite.specs.Held.{state}
use Rattle.store_tables.proofs.Grown.{grows_then}
use Rattle.store_tables.proofs.tables.create_answers.Goals as goal

pub returns-clause-does : goal.returns-clause-does
returns-clause-does g c =
    let up_to_10 = grows_then 8 9 10 (omega arith) (state g.S.Store c.args.tx.now.conn.now) (state g.S.Store c.create_outcomes.new.tx.conn.now) (state g.S.Store c.create_intervals.new.tx.conn.now) c.in_ok-create_outcomes.field-0 (Ok c.in_ok-create_intervals.field-0) c.in_ok-create_outcomes.ensures.does c.in_ok-create_intervals.ensures.does in
    grows_then 8 10 11 (omega arith) (state g.S.Store c.args.tx.now.conn.now) (state g.S.Store c.create_intervals.new.tx.conn.now) (state g.S.Store c.create_replies.new.tx.conn.now) c.in_ok-create_intervals.field-0 c.create_replies.result up_to_10 c.create_replies.ensures.does
