use Rattle.std.proofs.Common.{rules, ◌≡◌, Some, string_bytes, sym, ap, ◌∙◌}
use Rattle.sqlite.specs.declared.types.Value.TheVariants.{Text}
use Rattle.sqlite.specs.Order.{column}
use Rattle.table_audit.specs.Showing.{AreRowsOf}
use Rattle.table_audit.proofs.Looking.{made}
use Rattle.table_seals.specs.Sealing.{SealsRow}
use Rattle.table_seals.proofs.sealing.seal_row.Goals as goal

pub returns-in-Ok : goal.returns-in-Ok
returns-in-Ok g c =
    let text : column c.args.row.now 1 ≡ Text (string_bytes c.in-Ok-Some.meter) = rw c.in-Ok-Some.field-0-is at c.in-Ok-Some.ensures in
    let same : c.deref.result.now ≡ string_bytes c.in-Ok-Some.meter = search rules in
    made g.S.Store c.args.conn.now c.meter_rows.new.conn c.in_ok-rows.rows c.in-Ok.seal (AreRowsOf c.deref.result.now)
    (λ content found. SealsRow c.args.zone.now content c.args.row.now found) c.in_ok-rows.ensures
    (λ content theirs. record {
      rows = Some c.in_ok-rows.rows;
      theirs = (c.deref.result.now, text ∙ ap Text (sym same), theirs);
      is_sealed = c.in-Ok.ensures;
    })
