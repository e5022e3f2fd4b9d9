use Rattle.std.proofs.Common.{rules, ◌≡◌, List, subst}
use Rattle.sqlite.specs.Order.{Row}
use Rattle.table_audit.specs.Showing.{ShowsInstallations}
use Rattle.table_audit.proofs.Looking.{finds_then}
use Rattle.table_seals.specs.Sealing.{SealsRows, SealsMeters}
use Rattle.table_seals.proofs.sealing.seal_meters.Goals as goal

pub returns : goal.returns
returns g c =
    let same : c.deref.result.now ≡ c.in_ok-rows.rows.items = search rules in
    finds_then g.S.Store c.args.conn.now c.installations.new.conn c.seal_rows.new.conn c.in_ok-rows.rows c.seal_rows.result
    (λ content rows. ShowsInstallations content rows.items) (SealsRows c.args.zone.now c.deref.result.now) (SealsMeters c.args.zone.now)
    c.in_ok-rows.ensures c.seal_rows.ensures
    (λ content found shown sealed. record {
      rows = c.in_ok-rows.rows.items;
      shown = shown;
      sealed = subst (λ (rows : List Row). SealsRows c.args.zone.now rows content found) same sealed;
    })
