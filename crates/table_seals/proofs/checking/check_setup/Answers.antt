use Rattle.std.proofs.Common.{rules, ◌≡◌, List, ℕ, Vec, map, Ok, Err, subst}
use Rattle.table_audit.proofs.Looking.{cut_off, made, passed_on}
use Rattle.table_seals.specs.Sealed.{line_bytes}
use Rattle.table_seals.specs.Setup.{HasSetup, ReportsSetup, gone}
use Rattle.table_seals.proofs.checking.check_setup.Goals as goal

pub returns-in-Ok : goal.returns-in-Ok
returns-in-Ok g c =
    let present : c.as_slice.result.now ≡ c.in_ok-present.present.items = search rules in
    made g.S.Store c.args.conn.now c.setup_lines.new.conn c.in_ok-present.present c.in-Ok.lines
    (λ content lines. HasSetup c.args.zone.now content (map line_bytes lines.items))
    (λ content lines. ReportsSetup c.args.zone.now (map line_bytes c.args.sealed.now) content (map line_bytes lines.items)) c.in_ok-present.ensures
    (λ content has. record {
      present = map line_bytes c.in_ok-present.present.items;
      has = has;
      lines_are = subst (λ (ls : List (Vec ℕ _)). map line_bytes c.in-Ok.lines.items ≡ gone (map line_bytes ls) (map line_bytes c.args.sealed.now)) present c.in-Ok.ensures;
    })
