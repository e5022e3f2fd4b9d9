use Rattle.std.proofs.Common.{rules, ◌≡◌, List, ap, ◌∙◌}
use Rattle.sqlite.specs.Order.{Row}
use Rattle.table_audit.specs.PollDifferences.{latest_start}
use Rattle.table_audit.specs.PollShowing.{AreRowsOfRun}
use Rattle.table_audit.specs.Polls.{ReportsRun}
use Rattle.table_audit.proofs.Looking.{made}
use Rattle.table_audit.proofs.polls.audit_run.Goals as goal

pub returns-in-Ok-clause-finds : goal.returns-in-Ok-clause-finds
returns-in-Ok-clause-finds g c =
    let same : c.deref.result.now ≡ c.in_ok-rows.rows.polls.items = search rules in
    made g.S.Store c.args.conn.now c.run_rows.new.conn c.in_ok-rows.rows c.in-Ok.goes_on (AreRowsOfRun c.args.run)
    (ReportsRun c.args.run c.args.last c.args.since.now c.latest_start.result c.args.findings.now c.audit_rows_of.new.findings) c.in_ok-rows.ensures
    (λ content theirs. record { rows = c.in_ok-rows.rows; theirs = theirs; reported = c.in-Ok.ensures.reported; latest_is = c.latest_start.ensures ∙ ap (λ (rs : List Row). latest_start c.args.since.now rs) same; stops = c.in-Ok.ensures.stops })
