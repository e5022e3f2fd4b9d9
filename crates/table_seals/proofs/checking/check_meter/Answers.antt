use Rattle.std.proofs.Common.{rules, ◌≡◌, List, ℕ, string_bytes, subst}
use Rattle.table_audit.specs.Showing.{AreRowsOf}
use Rattle.table_audit.proofs.Looking.{made}
use Rattle.table_seals.specs.Checking.{check_of}
use Rattle.table_seals.specs.Installed.{ReportsKeptAt}
use Rattle.table_seals.specs.Sealed.{sealed_of}
use Rattle.table_seals.proofs.checking.check_meter.Goals as goal

pub returns-in-Ok : goal.returns-in-Ok
returns-in-Ok g c =
    let same : c.deref.result.now ≡ string_bytes c.args.seal.now.meter = search rules in
    made g.S.Store c.args.conn.now c.meter_rows.new.conn c.in_ok-rows.rows c.in-Ok.check (AreRowsOf c.deref.result.now)
    (λ content check. ReportsKeptAt c.args.known.now c.args.zone.now (sealed_of c.args.seal.now) content (check_of check)) c.in_ok-rows.ensures
    (λ content theirs installed are. record {
      rows = c.in_ok-rows.rows;
      theirs = subst (λ (name : List ℕ). AreRowsOf name content c.in_ok-rows.rows) same theirs;
      reported = (c.in-Ok.ensures installed are).reported;
      noted = (c.in-Ok.ensures installed are).noted;
    })
