use Rattle.std.proofs.Common.{Ok, sym, ap, ◌∙◌, arith}
use Rattle.table_audit.specs.Reading.{void_in}
use Rattle.table_audit.proofs.ReadRows.{next_read, unread, all_read}
use Rattle.table_audit.proofs.reading.voids.Goals as goal

pub loop-row-preserved : goal.loop-row-preserved
loop-row-preserved c =
    next_read void_in c.args.rows.now c.loop-row.row-index c.row-item.result c.loop-row.found.items c.in-Ok.void (omega arith) c.loop-row.invariant
    (ap void_in (sym c.row-item.is) ∙ sym c.in-Ok.ensures) ∙ ap (λ xs. Ok xs) (sym c.in_ok-push-in-Ok.ensures.items)

pub returns-in-Err : goal.returns-in-Err
returns-in-Err c =
    unread void_in c.args.rows.now c.loop-row.row-index c.row-item.result _ (omega arith) (ap void_in (sym c.row-item.is) ∙ sym c.in-Err.ensures)

pub returns : goal.returns
returns c = all_read void_in c.args.rows.now c.loop-row.row-index c.loop-row.found.items (omega arith) c.loop-row.invariant
