use Rattle.std.proofs.Common.{rules, ◌≡◌, List, subst}
use Rattle.sqlite.specs.Order.{Row}
use Rattle.table_audit.specs.FileMark.{FindsZone, ReadsZone, ShowsMarks}
use Rattle.table_audit.proofs.Looking.{made}
use Rattle.table_audit.proofs.ZoneFound.{zone_found}
use Rattle.table_audit.proofs.file_mark.zone_text.Goals as goal

pub returns-in-Ok : goal.returns-in-Ok
returns-in-Ok g c =
    let same : c.deref.result.now ≡ c.in_ok-rows.rows.items = search rules in
    made g.S.Store c.args.conn.now c.marks.new.conn c.in_ok-rows.rows c.in-Ok.zone (λ content rows. ShowsMarks content rows.items) FindsZone c.in_ok-rows.ensures
    (λ content shown. zone_found content c.in_ok-rows.rows.items c.in-Ok.zone shown (subst (λ (rows : List Row). ReadsZone rows c.in-Ok.zone) same c.in-Ok.ensures))
