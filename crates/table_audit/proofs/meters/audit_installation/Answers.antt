use Rattle.std.proofs.Common.{rules, ◌≡◌, false, is_none, sym, ◌∙◌}
use Rattle.table_audit.proofs.LookedAt.{fine_meter}
use Rattle.table_audit.proofs.meters.audit_installation.Goals as goal

pub returns-then-placed-clause-fine : goal.returns-then-placed-clause-fine
returns-then-placed-clause-fine c =
    let some : is_none c.name.result ≡ false = search rules in
    fine_meter c.args.place c.args.row.now c.args.rows.now c.in-Ok.installed c.name.result c.in_ok-fine.fine c.in_ok-placed.placed
    (sym c.installation.ensures ∙ c.in-Ok.is) c.name.ensures some c.in_ok-placed.ensures.placed c.if-placed.true c.in_ok-fine.ensures.fine
