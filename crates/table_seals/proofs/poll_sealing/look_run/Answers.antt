use Rattle.table_audit.specs.PollShowing.{AreRowsOfRun}
use Rattle.table_audit.proofs.Looking.{made}
use Rattle.table_seals.specs.PollSealing.{LooksAtRun}
use Rattle.table_seals.proofs.poll_sealing.look_run.Goals as goal

pub returns-in-Ok-clause-finds : goal.returns-in-Ok-clause-finds
returns-in-Ok-clause-finds g c =
    made g.S.Store c.args.conn.now c.run_rows.new.conn c.in_ok-rows.rows c.in-Ok.found (AreRowsOfRun c.args.run)
    (LooksAtRun c.args.run c.args.last c.args.hidden.now c.args.first c.args.hasher.now c.add_run.new.hasher c.args.pending.now.items c.add_run.new.pending.items)
    c.in_ok-rows.ensures
    (λ content theirs. record { rows = c.in_ok-rows.rows; theirs = theirs; adds = c.in-Ok.ensures.adds })
