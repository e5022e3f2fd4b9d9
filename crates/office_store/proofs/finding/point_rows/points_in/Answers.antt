use Rattle.std.proofs.Common.{◌≡◌, ◌+◌, ◌<◌, sym, subst, length, get_or, arith}
use Rattle.store_tables.specs.Devices.Rows.{point_shown}
use Rattle.office_store.specs.Finding.Points.{IsPointOf, IsReadablePoint}
use Rattle.office_store.proofs.FindingLemmas.ReadRows.{HasReadSome, read_more, unreadable, read_all}
use Rattle.office_store.proofs.finding.point_rows.points_in.Goals as goal

pub loop-row-preserved : goal.loop-row-preserved
loop-row-preserved c =
    subst (HasReadSome c.args.rows.now.items point_shown IsPointOf (c.loop-row.row-index + 1)) (sym c.in_ok-push_item.ensures.put)
    (read_more c.args.rows.now.items point_shown IsPointOf c.loop-row.row-index c.row-item.result (subst (λ rows. c.loop-row.row-index < length rows) c.deref-row-items.ensures.value c.loop-row-test.true)
    (subst (λ rows. c.row-item.result ≡ get_or rows c.loop-row.row-index c.row-item.result) c.deref-row-items.ensures.value c.row-item.is) IsReadablePoint c.loop-row.points.items c.in_ok-point.point c.in_ok-point.ensures c.loop-row.invariant)

pub returns-in_err-point : goal.returns-in_err-point
returns-in_err-point c =
    unreadable c.args.rows.now.items point_shown IsPointOf c.loop-row.row-index c.row-item.result (subst (λ rows. c.loop-row.row-index < length rows) c.deref-row-items.ensures.value c.loop-row-test.true)
    (subst (λ rows. c.row-item.result ≡ get_or rows c.loop-row.row-index c.row-item.result) c.deref-row-items.ensures.value c.row-item.is) IsReadablePoint (λ v. v.items) c.in_err-point.field-0.0 c.from_residual.result c.in_err-point.ensures
    c.from_residual.ensures.1

pub returns : goal.returns
returns c = read_all c.args.rows.now.items point_shown IsPointOf IsReadablePoint (λ v. v.items) c.loop-row.points c.loop-row.row-index (omega arith) c.loop-row.invariant
