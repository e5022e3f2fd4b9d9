use Rattle.std.proofs.Common.{rules, ◌≡◌}
use Rattle.table_audit.proofs.Named.{reported_named}
use Rattle.table_audit.proofs.meters.audit_named.Goals as goal

pub returns-clause-reported : goal.returns-clause-reported
returns-clause-reported c =
    let given : c.as_slice.result.now ≡ c.audit_installation.new.found.first.items = search rules in
    reported_named c.args.place c.args.row.now c.args.rows.now c.args.meter.now c.in_ok-_fine._fine c.new-found.result c.audit_installation.new.found
    c.as_slice.result.now c.args.findings.now c.append_differences.new.self c.count.new.self given c.count.ensures.first
    c.new-found.ensures.none c.in_ok-_fine.ensures.fine c.in_ok-_fine.ensures.reports c.in_ok-append_differences.ensures.first
