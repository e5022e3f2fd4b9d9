use Rattle.table_audit.specs.Showing.{AreRowsOf}
use Rattle.table_audit.specs.Fine.{ReportsFine}
use Rattle.table_audit.proofs.Looking.{made}
use Rattle.table_audit.proofs.audit.audit_meter.Goals as goal

pub returns-in-Ok-clause-finds : goal.returns-in-Ok-clause-finds
returns-in-Ok-clause-finds g c =
    made g.S.Store c.args.conn.now c.meter_rows.new.conn c.in_ok-rows.rows c.in-Ok.fine (AreRowsOf c.args.meter.now)
    (ReportsFine c.args.meter.now c.args.installation.now) c.in_ok-rows.ensures
    (λ content theirs. record { rows = c.in_ok-rows.rows; theirs = theirs; reported = c.in-Ok.ensures.fine })
