use Rattle.std.proofs.Common.{rules, ◌≡◌, List, subst}
use Rattle.sqlite.specs.Order.{Row}
use Rattle.table_audit.specs.Showing.{ShowsInstallations}
use Rattle.table_audit.proofs.Looking.{finds_then}
use Rattle.table_seals.specs.Filing.{FilesRows, FilesMeters}
use Rattle.table_seals.proofs.filing.filed_meters.Goals as goal

pub returns : goal.returns
returns g c =
    let same : c.deref.result.now ≡ c.in_ok-rows.rows.items = search rules in
    finds_then g.S.Store c.args.conn.now c.installations.new.conn c.file_rows.new.conn c.in_ok-rows.rows c.file_rows.result
    (λ content rows. ShowsInstallations content rows.items) (FilesRows c.args.file.now c.deref.result.now) (FilesMeters c.args.file.now)
    c.in_ok-rows.ensures c.file_rows.ensures
    (λ content found shown filed. record {
      rows = c.in_ok-rows.rows.items;
      shown = shown;
      filed = subst (λ (rows : List Row). FilesRows c.args.file.now rows content found) same filed;
    })
