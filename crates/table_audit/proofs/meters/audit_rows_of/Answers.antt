use Rattle.std.proofs.Common.{rules, ◌≡◌, ◌+◌, List, take, Ok, Err, refl, subst, arith}
use Rattle.table_audit.specs.declared.spans.MeterSpan.{MeterSpan}
use Rattle.table_audit.specs.Meters.{ReportsRow, ReportsEach, ReportsRows}
use Rattle.table_audit.specs.Named.{IsReported}
use Rattle.table_audit.specs.Spans.{overlaps}
use Rattle.table_audit.proofs.AuditedRows.{all_reported}
use Rattle.table_audit.proofs.LookedAt.{none_few, none_reported, one_more_reported}
use Rattle.table_audit.proofs.Looking.{known, finds_then, passed_on, made, cut_off_by}
use Rattle.table_audit.proofs.meters.audit_rows_of.Goals as goal

pub loop-index-init : goal.loop-index-init
loop-index-init g c = record {
  finds = known g.S.Store c.args.conn.now c.new-findings.result _
      (λ content. none_reported c.args.rows.now content c.new-findings.result c.new-spans.result.items c.new-findings.ensures.none c.new-findings.ensures.counts (search rules));
  few = none_few c.new-findings.result c.new-findings.ensures.none;
}

pub audit_row-requires-clause-mode : goal.audit_row-requires-clause-mode
audit_row-requires-clause-mode g c = c.loop-index.invariant.finds.looks.mode c.requires.mode

pub loop-index-preserved : goal.loop-index-preserved
loop-index-preserved g c = record {
  finds = made g.S.Store c.args.conn.now c.audit_row.new.conn c.in_ok-span.span c.audit_row.new.findings _ _
      (finds_then g.S.Store c.args.conn.now c.loop-index.conn c.audit_row.new.conn c.loop-index.findings (Ok c.in_ok-span.span) _ _
      (λ content span. ReportsEach (take c.loop-index.index c.args.rows.now) content c.loop-index.findings c.loop-index.spans.items
      × ReportsRow content (c.loop-index.index + 1) c.index-rows-index.result span c.loop-index.findings c.audit_row.new.findings)
      c.loop-index.invariant.finds c.in_ok-span.ensures.finds (λ content span before one. (before, one)))
      (λ content h. one_more_reported content c.args.rows.now c.loop-index.index (c.loop-index.index + 1) c.index-rows-index.result c.in_ok-span.span c.loop-index.findings c.audit_row.new.findings
      c.loop-index.spans.items c.append_span.new.spans.items (omega arith) c.index-rows-index.is refl h.0 h.1 c.in_ok-append_span.ensures.appended);
  few = c.in_ok-span.ensures.few;
}

pub returns-in_err-span-clause-finds : goal.returns-in_err-span-clause-finds
returns-in_err-span-clause-finds g c =
    passed_on g.S.Store c.args.conn.now c.audit_row.new.conn c.in_err-span.field-0.0 c.from_residual.result _ _
    (finds_then g.S.Store c.args.conn.now c.loop-index.conn c.audit_row.new.conn c.loop-index.findings (Err c.in_err-span.field-0.0) _ _
    (λ content span. ReportsRow content (c.loop-index.index + 1) _ span c.loop-index.findings c.audit_row.new.findings)
    c.loop-index.invariant.finds c.in_err-span.ensures.finds (λ content _ before one. one))
    c.from_residual.ensures.1

pub returns-in_err-append_span-clause-finds : goal.returns-in_err-append_span-clause-finds
returns-in_err-append_span-clause-finds g c =
    cut_off_by g.S.Store c.args.conn.now c.audit_row.new.conn c.in_ok-span.span c.in_err-append_span.field-0.0 c.from_residual-in_err-append_span.result _ _
    (finds_then g.S.Store c.args.conn.now c.loop-index.conn c.audit_row.new.conn c.loop-index.findings (Ok c.in_ok-span.span) _ _
    (λ content span. ReportsRow content (c.loop-index.index + 1) _ span c.loop-index.findings c.audit_row.new.findings)
    c.loop-index.invariant.finds c.in_ok-span.ensures.finds (λ content _ before one. one))
    c.in_err-append_span.ensures.fault c.from_residual-in_err-append_span.ensures.1

pub returns-in_err-append_overlapping-clause-finds : goal.returns-in_err-append_overlapping-clause-finds
returns-in_err-append_overlapping-clause-finds g c =
    cut_off_by g.S.Store c.args.conn.now c.loop-index.conn c.loop-index.findings c.in_err-append_overlapping.field-0.0 c.from_residual-in_err-append_overlapping.result _ _
    c.loop-index.invariant.finds c.in_err-append_overlapping.ensures.fault c.from_residual-in_err-append_overlapping.ensures.1

pub returns-clause-finds : goal.returns-clause-finds
returns-clause-finds g c =
    let same : c.as_slice.result.now ≡ c.loop-index.spans.items = search rules in
    let reported : IsReported (overlaps c.loop-index.spans.items) c.loop-index.findings c.append_overlapping.new.findings =
    subst (λ (spans : List MeterSpan). IsReported (overlaps spans) c.loop-index.findings c.append_overlapping.new.findings) same c.in_ok-append_overlapping.ensures.reported in
    made g.S.Store c.args.conn.now c.loop-index.conn c.loop-index.findings c.append_overlapping.new.findings _ (ReportsRows c.args.rows.now) c.loop-index.invariant.finds
    (λ content each. all_reported content c.args.rows.now c.loop-index.index c.loop-index.findings c.append_overlapping.new.findings c.loop-index.spans.items (omega arith) each reported)
