use Rattle.std.proofs.Common.{rules, ◌≡◌, List, ℕ, Option, Ok, None, Some, string_bytes, inl, subst}
use Rattle.interval_core.specs.Zone.{HasRule}
use Rattle.table_audit.specs.FileMark.{FindsZone}
use Rattle.table_audit.proofs.Looking.{finds_then, made}
use Rattle.table_seals.specs.Sealing.{SealsInZone, SealsTables}
use Rattle.table_seals.proofs.ZoneLemmas.{is_zone, no_zone, sealed_in}
use Rattle.table_seals.proofs.sealing.seal_tables.Goals as goal

pub returns-in-None : goal.returns-in-None
returns-in-None g c =
    made g.S.Store c.args.conn.now c.zone_text.new.conn c.in_ok-text.field-0 None _ SealsTables c.in_ok-text.ensures
    (λ content found. inl (no_zone content c.in_ok-text.field-0 c.in-None.is found))

pub returns-in-Ok : goal.returns-in-Ok
returns-in-Ok g c =
    let text : c.deref.result.now ≡ string_bytes c.in-Some.text = search rules in
    let again : c.deref-in-Ok.result.now ≡ string_bytes c.in-Some.text = search rules in
    finds_then g.S.Store c.args.conn.now c.zone_text.new.conn c.seal_in_zone.new.conn c.in_ok-text.field-0 c.seal_in_zone.result
    (λ content found. FindsZone content found) (SealsInZone c.in-Ok.zone c.deref-in-Ok.result.now) SealsTables c.in_ok-text.ensures c.seal_in_zone.ensures
    (λ content found is sealed. sealed_in content (string_bytes c.in-Some.text) c.in-Ok.zone found
    (is_zone content c.in_ok-text.field-0 c.in-Some.text c.in-Some.is is)
    (subst (λ (t : List ℕ). HasRule t c.in-Ok.zone) text c.in-Ok.ensures.value)
    (subst (λ (t : List ℕ). SealsInZone c.in-Ok.zone t content found) again sealed))
