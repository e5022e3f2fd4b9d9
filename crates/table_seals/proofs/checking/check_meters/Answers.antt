use Rattle.std.proofs.Common.{rules, ◌≡◌, List, map, subst}
use Rattle.sqlite.specs.Order.{Row}
use Rattle.table_audit.specs.Showing.{ShowsInstallations}
use Rattle.table_audit.proofs.Looking.{finds_then}
use Rattle.table_seals.specs.Checking.{ReportsMeters, checks_of}
use Rattle.table_seals.specs.Installed.{AreTermsOf, ReportsNamesAt}
use Rattle.table_seals.specs.Sealed.{sealed_of}
use Rattle.table_seals.proofs.checking.check_meters.Goals as goal

pub returns-in-Ok : goal.returns-in-Ok
returns-in-Ok g c =
    let same : c.deref.result.now ≡ c.in_ok-installed.installed.items = search rules in
    let are : AreTermsOf c.in_ok-installed.installed.items c.in-Ok.known =
    subst (λ (rows : List Row). AreTermsOf rows c.in-Ok.known) same c.in-Ok.ensures in
    finds_then g.S.Store c.args.conn.now c.installations.new.conn c.check_each.new.conn c.in_ok-installed.installed c.check_each.result
    (λ content rows. ShowsInstallations content rows.items)
    (λ content checked. ReportsNamesAt c.in-Ok.known c.args.zone.now (map sealed_of c.args.seals.now) content (checks_of checked))
    (λ content checked. ReportsMeters c.args.zone.now (map sealed_of c.args.seals.now) content (checks_of checked))
    c.in_ok-installed.ensures c.check_each.ensures
    (λ content checked shown reports. record {
      installed = c.in_ok-installed.installed.items;
      shown = shown;
      reports = reports c.in_ok-installed.installed.items are;
    })
