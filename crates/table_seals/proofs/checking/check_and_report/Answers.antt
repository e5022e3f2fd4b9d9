use Rattle.std.proofs.Common.{rules, ◌≡◌, List, ℕ, string_bytes, subst}
use Rattle.table_audit.proofs.Looking.{made}
use Rattle.table_seals.specs.Checking.{AppendsCheck, check_of, checks_of}
use Rattle.table_seals.specs.Installed.{ReportsKeptAt, ReportsMeterAt}
use Rattle.table_seals.specs.Sealed.{sealed_of}
use Rattle.table_seals.proofs.checking.check_and_report.Goals as goal

pub returns-in-Ok : goal.returns-in-Ok
returns-in-Ok g c =
    let same : c.deref.result.now ≡ string_bytes c.args.seal.now.meter = search rules in
    made g.S.Store c.args.conn.now c.check_meter.new.conn c.in_ok-check.check _
    (λ content check. ReportsKeptAt c.args.known.now c.args.zone.now (sealed_of c.args.seal.now) content (check_of check))
    (λ content _. ReportsMeterAt c.args.known.now c.args.zone.now (sealed_of c.args.seal.now) content (checks_of c.args.checked.now)
    (checks_of c.append_check.new.checked))
    c.in_ok-check.ensures
    (λ content reported installed are. record {
      checked = check_of c.in_ok-check.check;
      reported = reported installed are;
      appended = subst (λ (name : List ℕ). AppendsCheck (check_of c.in_ok-check.check) name (checks_of c.args.checked.now) (checks_of c.append_check.new.checked))
          same c.in-Ok.ensures;
    })
