use Rattle.std.proofs.Common.{rules, ◌≡◌, List, subst}
use Rattle.sqlite.specs.Order.{Row}
use Rattle.table_audit.specs.Meters.{ReportsRows, ReportsMeters}
use Rattle.table_audit.specs.Showing.{ShowsInstallations}
use Rattle.table_audit.proofs.Looking.{finds_then, passed_on}
use Rattle.table_audit.proofs.meters.audit_meters.Goals as goal

pub audit_rows_of-requires : goal.audit_rows_of-requires
audit_rows_of-requires g c = record { mode = c.in_ok-rows.ensures.looks.mode c.requires.mode }

pub returns-in_err-rows-clause-finds : goal.returns-in_err-rows-clause-finds
returns-in_err-rows-clause-finds g c =
    passed_on g.S.Store c.args.conn.now c.installations.new.conn c.in_err-rows.field-0.0 c.from_residual.result _ ReportsMeters
    c.in_err-rows.ensures c.from_residual.ensures.1

pub returns-clause-finds : goal.returns-clause-finds
returns-clause-finds g c =
    let same : c.deref.result.now ≡ c.in_ok-rows.rows.items = search rules in
    finds_then g.S.Store c.args.conn.now c.installations.new.conn c.audit_rows_of.new.conn c.in_ok-rows.rows c.audit_rows_of.result
    (λ content rows. ShowsInstallations content rows.items) (ReportsRows c.deref.result.now) ReportsMeters
    c.in_ok-rows.ensures c.audit_rows_of.ensures.finds
    (λ content found shown reports. record {
      rows = c.in_ok-rows.rows.items;
      shown = shown;
      reports = subst (λ (rows : List Row). ReportsRows rows content found) same reports;
    })
