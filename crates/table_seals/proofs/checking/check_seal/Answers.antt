use Rattle.std.proofs.Common.{rules, ◌≡◌, List, ℕ, Option, Ok, Err, None, Some, string_bytes, subst}
use Rattle.interval_core.specs.Zone.{HasRule}
use Rattle.table_audit.specs.FileMark.{FindsZone}
use Rattle.table_audit.proofs.Looking.{finds_then, made, passed_on}
use Rattle.table_seals.specs.Checking.{ReportsIfZone, ReportsInZone}
use Rattle.table_seals.specs.Sealed.{SealedTables, sealed_tables_of}
use Rattle.table_seals.proofs.ZoneLemmas.{is_zone, no_zone, reported_in}
use Rattle.table_seals.proofs.checking.check_seal.Goals as goal

pub returns-in-None : goal.returns-in-None
returns-in-None g c =
    made g.S.Store c.args.conn.now c.zone_text.new.conn c.in_ok-text.field-0 None _ (ReportsIfZone (sealed_tables_of c.args.seal.now)) c.in_ok-text.ensures
    (λ content found. no_zone content c.in_ok-text.field-0 c.in-None.is found)

pub returns-in-Ok : goal.returns-in-Ok
returns-in-Ok g c =
    let text : c.deref.result.now ≡ string_bytes c.in-Some.text = search rules in
    let again : c.deref-in-Ok.result.now ≡ string_bytes c.in-Some.text = search rules in
    let seal : SealedTables = sealed_tables_of c.args.seal.now in
    made g.S.Store c.args.conn.now c.check_in_zone.new.conn c.in_ok-checked-in-Ok.checked (Some c.in_ok-checked-in-Ok.checked)
    (λ content checked. ReportsIfZone seal content (Some checked)) (ReportsIfZone seal)
    (finds_then g.S.Store c.args.conn.now c.zone_text.new.conn c.check_in_zone.new.conn c.in_ok-text.field-0 (Ok c.in_ok-checked-in-Ok.checked)
    (λ content found. FindsZone content found) (ReportsInZone c.in-Ok.zone c.deref-in-Ok.result.now seal) (λ content checked. ReportsIfZone seal content (Some checked))
    c.in_ok-text.ensures c.in_ok-checked-in-Ok.ensures
    (λ content checked is reported. reported_in seal content (string_bytes c.in-Some.text) c.in-Ok.zone checked
    (is_zone content c.in_ok-text.field-0 c.in-Some.text c.in-Some.is is)
    (subst (λ (t : List ℕ). HasRule t c.in-Ok.zone) text c.in-Ok.ensures.value)
    (subst (λ (t : List ℕ). ReportsInZone c.in-Ok.zone t seal content checked) again reported)))
    (λ content reported. reported)

pub returns-in_err-checked-in-Ok : goal.returns-in_err-checked-in-Ok
returns-in_err-checked-in-Ok g c =
    passed_on g.S.Store c.args.conn.now c.check_in_zone.new.conn c.in_err-checked-in-Ok.field-0.0 c.from_residual-in_err-checked-in-Ok.result _ _
    (finds_then g.S.Store c.args.conn.now c.zone_text.new.conn c.check_in_zone.new.conn c.in_ok-text.field-0 (Err c.in_err-checked-in-Ok.field-0.0)
    (λ content found. FindsZone content found) (ReportsInZone c.in-Ok.zone c.deref-in-Ok.result.now (sealed_tables_of c.args.seal.now)) (λ content _. Unit {0})
    c.in_ok-text.ensures c.in_err-checked-in-Ok.ensures (λ content _ is reported. tt))
    c.from_residual-in_err-checked-in-Ok.ensures.1
