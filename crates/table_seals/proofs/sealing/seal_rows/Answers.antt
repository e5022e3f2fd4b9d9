use Rattle.std.proofs.Common.{Ok, Err, None, take, sym, subst, arith}
use Rattle.table_audit.specs.Looking.{Finds}
use Rattle.table_audit.proofs.Looking.{finds_then, passed_on, made, cut_off}
use Rattle.store_tables.specs.declared.faults.RowFault.{RowFault}
use Rattle.table_seals.specs.Sealing.{SealsRow, AreSealed, SealsRows}
use Rattle.table_seals.proofs.Rows.{next_sealed, there_at}
use Rattle.table_seals.proofs.sealing.seal_rows.Goals as goal

pub returns-in_err-seal : goal.returns-in_err-seal
returns-in_err-seal g c =
    passed_on g.S.Store c.args.conn.now c.seal_row.new.conn c.in_err-seal.field-0.0 c.from_residual.result _ _
    (finds_then g.S.Store c.args.conn.now c.loop-row.conn c.seal_row.new.conn c.loop-row.seals (Err c.in_err-seal.field-0.0) _ _
    (λ content _. Unit {0})
    c.loop-row.invariant c.in_err-seal.ensures (λ content _ before one. tt))
    c.from_residual.ensures.1

pub returns-in-None : goal.returns-in-None
returns-in-None g c =
    made g.S.Store c.args.conn.now c.seal_row.new.conn c.in_ok-seal.field-0 None _ (SealsRows c.args.zone.now c.args.rows.now)
    (finds_then g.S.Store c.args.conn.now c.loop-row.conn c.seal_row.new.conn c.loop-row.seals (Ok c.in_ok-seal.field-0) _ _
    (λ content found. SealsRow c.args.zone.now content c.row-item.result found)
    c.loop-row.invariant c.in_ok-seal.ensures (λ content _ before one. one))
    (λ content one. (
      c.loop-row.row-index,
      c.row-item.result,
      there_at c.args.rows.now c.loop-row.row-index c.row-item.result (omega arith) c.row-item.is,
      subst (SealsRow c.args.zone.now content c.row-item.result) c.in-None.is one,
    ))

pub returns-in_err-keep : goal.returns-in_err-keep
returns-in_err-keep g c =
    passed_on g.S.Store c.args.conn.now c.seal_row.new.conn c.in_err-keep.field-0.0 c.from_residual-in_err-keep.result (λ content _. Unit {0}) _
    (subst (λ (e : RowFault). Finds {A = Unit {0}} g.S.Store c.args.conn.now c.seal_row.new.conn (Err e) (λ content _. Unit {0})) (sym c.in_err-keep.ensures.fault)
    (cut_off g.S.Store c.args.conn.now c.seal_row.new.conn c.in_ok-seal.field-0 (λ content _. Unit {0}) (λ content _. Unit {0})
    (finds_then g.S.Store c.args.conn.now c.loop-row.conn c.seal_row.new.conn c.loop-row.seals (Ok c.in_ok-seal.field-0) _ _
    (λ content _. Unit {0})
    c.loop-row.invariant c.in_ok-seal.ensures (λ content _ before one. tt))))
    c.from_residual-in_err-keep.ensures.1

pub loop-row-preserved : goal.loop-row-preserved
loop-row-preserved g c =
    made g.S.Store c.args.conn.now c.seal_row.new.conn c.in_ok-seal.field-0 c.keep.new.seals
    (λ content found. AreSealed c.args.zone.now content (take c.loop-row.row-index c.args.rows.now) c.loop-row.seals.items × SealsRow c.args.zone.now content c.row-item.result found) _
    (finds_then g.S.Store c.args.conn.now c.loop-row.conn c.seal_row.new.conn c.loop-row.seals (Ok c.in_ok-seal.field-0)
    (λ content seals. AreSealed c.args.zone.now content (take c.loop-row.row-index c.args.rows.now) seals.items) (λ content found. SealsRow c.args.zone.now content c.row-item.result found)
    (λ content found. AreSealed c.args.zone.now content (take c.loop-row.row-index c.args.rows.now) c.loop-row.seals.items × SealsRow c.args.zone.now content c.row-item.result found)
    c.loop-row.invariant c.in_ok-seal.ensures
    (λ content _ before one. (before, one)))
    (λ content both.
    next_sealed c.args.zone.now content c.args.rows.now c.loop-row.row-index c.row-item.result c.loop-row.seals.items c.keep.new.seals.items c.in-Some.seal (omega arith)
    c.row-item.is c.in_ok-keep.ensures.kept both.0 (subst (SealsRow c.args.zone.now content c.row-item.result) c.in-Some.is both.1))
