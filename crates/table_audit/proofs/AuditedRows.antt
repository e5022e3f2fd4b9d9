-- The lemma on the audit of all rows of `installations`: the audit finds no discrepancy if and only
-- if no row has one and no meters overlap at a register.
use Rattle.std.proofs.Common.{◌≡◌, ℕ, ◌≤◌, List, take, length, sym, ap, subst, ◌∙◌}
use Rattle.std.proofs.lemmas.List.{take_all}
use Rattle.sqlite.specs.Order.{Row}
use Rattle.store_tables.specs.Content.{Content}
use Rattle.table_audit.specs.declared.findings.Findings.{Findings}
use Rattle.table_audit.specs.declared.spans.MeterSpan.{MeterSpan}
use Rattle.table_audit.specs.Meters.{spans_in, ReportsEach, ReportsRows}
use Rattle.table_audit.specs.Named.{IsReported}
use Rattle.table_audit.specs.Spans.{overlaps}
use Rattle.table_audit.proofs.Named.{reported_none, none_so_reported}
use Rattle.table_audit.proofs.SpansFound.{none_overlap, overlap_none}

-- If all rows of `installations` were audited, and the meters that overlap at a register were then
-- reported, the result is that of the complete audit of these rows.
pub all_reported : (content : Content) (rows : List Row) (i : ℕ) (found last : Findings) (spans : List MeterSpan) → length rows ≤ i → ReportsEach (take i rows) content found spans
    → IsReported (overlaps spans) found last → ReportsRows rows content last
all_reported content rows i found last spans le before overlapping =
    let each : ReportsEach rows content found spans = subst (λ (rs : List Row). ReportsEach rs content found spans) (take_all i rows le) before in
    record {
      looked = each.looked;
      each = each.each;
      theirs = each.theirs;
      reported = (
        λ none.
            let two = reported_none (overlaps spans) found last overlapping none in
            (each.reported.0 two.0, none_overlap (spans_in each.looked) (sym (ap overlaps each.spans_are) ∙ two.1)),
        λ fine. none_so_reported (overlaps spans) found last overlapping (each.reported.1 fine.0) (ap overlaps each.spans_are ∙ overlap_none (spans_in each.looked) fine.1),
      );
      counts = overlapping.counts ∙ each.counts;
    }
