use Rattle.std.proofs.Common.{Ok, Err, None, take, sym, subst, arith}
use Rattle.table_audit.specs.Looking.{Finds}
use Rattle.table_audit.proofs.Looking.{finds_then, passed_on, made, cut_off}
use Rattle.store_tables.specs.declared.faults.RowFault.{RowFault}
use Rattle.table_seals.specs.Filing.{FilesRow, AreFiled, FilesRows}
use Rattle.table_seals.proofs.FiledMeters.{next_filed}
use Rattle.table_seals.proofs.Rows.{there_at}
use Rattle.table_seals.proofs.filing.file_rows.Goals as goal

pub returns-in_err-filed : goal.returns-in_err-filed
returns-in_err-filed g c =
    passed_on g.S.Store c.args.conn.now c.file_row.new.conn c.in_err-filed.field-0.0 c.from_residual.result _ _
    (finds_then g.S.Store c.args.conn.now c.loop-row.conn c.file_row.new.conn c.loop-row.meters (Err c.in_err-filed.field-0.0) _ _
    (λ content _. Unit {0})
    c.loop-row.invariant c.in_err-filed.ensures (λ content _ before one. tt))
    c.from_residual.ensures.1

pub returns-in-None : goal.returns-in-None
returns-in-None g c =
    made g.S.Store c.args.conn.now c.file_row.new.conn c.in_ok-filed.field-0 None _ (FilesRows c.args.file.now c.args.rows.now)
    (finds_then g.S.Store c.args.conn.now c.loop-row.conn c.file_row.new.conn c.loop-row.meters (Ok c.in_ok-filed.field-0) _ _
    (λ content found. FilesRow c.args.file.now content c.row-item.result found)
    c.loop-row.invariant c.in_ok-filed.ensures (λ content _ before one. one))
    (λ content one. (
      c.loop-row.row-index,
      c.row-item.result,
      there_at c.args.rows.now c.loop-row.row-index c.row-item.result (omega arith) c.row-item.is,
      subst (FilesRow c.args.file.now content c.row-item.result) c.in-None.is one,
    ))

pub returns-in_err-keep : goal.returns-in_err-keep
returns-in_err-keep g c =
    passed_on g.S.Store c.args.conn.now c.file_row.new.conn c.in_err-keep.field-0.0 c.from_residual-in_err-keep.result (λ content _. Unit {0}) _
    (subst (λ (e : RowFault). Finds {A = Unit {0}} g.S.Store c.args.conn.now c.file_row.new.conn (Err e) (λ content _. Unit {0})) (sym c.in_err-keep.ensures.fault)
    (cut_off g.S.Store c.args.conn.now c.file_row.new.conn c.in_ok-filed.field-0 (λ content _. Unit {0}) (λ content _. Unit {0})
    (finds_then g.S.Store c.args.conn.now c.loop-row.conn c.file_row.new.conn c.loop-row.meters (Ok c.in_ok-filed.field-0) _ _
    (λ content _. Unit {0})
    c.loop-row.invariant c.in_ok-filed.ensures (λ content _ before one. tt))))
    c.from_residual-in_err-keep.ensures.1

pub loop-row-preserved : goal.loop-row-preserved
loop-row-preserved g c =
    made g.S.Store c.args.conn.now c.file_row.new.conn c.in_ok-filed.field-0 c.keep.new.meters
    (λ content found. AreFiled c.args.file.now content (take c.loop-row.row-index c.args.rows.now) c.loop-row.meters.items × FilesRow c.args.file.now content c.row-item.result found) _
    (finds_then g.S.Store c.args.conn.now c.loop-row.conn c.file_row.new.conn c.loop-row.meters (Ok c.in_ok-filed.field-0)
    (λ content meters. AreFiled c.args.file.now content (take c.loop-row.row-index c.args.rows.now) meters.items) (λ content found. FilesRow c.args.file.now content c.row-item.result found)
    (λ content found. AreFiled c.args.file.now content (take c.loop-row.row-index c.args.rows.now) c.loop-row.meters.items × FilesRow c.args.file.now content c.row-item.result found)
    c.loop-row.invariant c.in_ok-filed.ensures
    (λ content _ before one. (before, one)))
    (λ content both.
    next_filed c.args.file.now content c.args.rows.now c.loop-row.row-index c.row-item.result c.loop-row.meters.items c.keep.new.meters.items c.in-Some.filed (omega arith)
    c.row-item.is c.in_ok-keep.ensures.kept both.0 (subst (FilesRow c.args.file.now content c.row-item.result) c.in-Some.is both.1))
