use Rattle.std.proofs.Common.{Some}
use Rattle.table_audit.specs.Meters.{ReportsRow}
use Rattle.table_audit.specs.Showing.{AreRowsOf}
use Rattle.table_audit.proofs.Looking.{made}
use Rattle.table_audit.proofs.meters.audit_row.Goals as goal

pub returns-in-Ok-audit_named-clause-finds : goal.returns-in-Ok-audit_named-clause-finds
returns-in-Ok-audit_named-clause-finds g c =
    made g.S.Store c.args.conn.now c.meter_rows.new.conn c.in_ok-rows.rows c.span.result (AreRowsOf c.in-Some.meter.now)
    (λ content span. ReportsRow content c.args.place c.args.row.now span c.args.findings.now c.audit_named.new.findings) c.in_ok-rows.ensures
    (λ content theirs. record {
      rows = Some c.in_ok-rows.rows;
      theirs = (c.in-Some.meter.now, c.in-Some.ensures, theirs);
      reported = c.in-Ok-audit_named.ensures.reported;
      counts = c.in-Ok-audit_named.ensures.counts;
      span_is = c.span.ensures;
    })
