use Rattle.office_store.specs.Rows.{placed_on, listed, points_of}
use Rattle.store_tables.specs.Devices.Rows.{point_shown}
use Rattle.office_store.specs.Finding.Points.{IsPointOf, IsReadablePoint}
use Rattle.office_store.proofs.FindingLemmas.Found.{rows_read}
use Rattle.office_store.proofs.FindingLemmas.Lists.{points_read}
use Rattle.office_store.proofs.finding.point_lists.points.Goals as goal

pub returns : goal.returns
returns g c =
    rows_read g.S.Store c.args.conn.now c.rows_of.new.conn c.in_ok-rows.rows c.in_ok-rows.rows.items point_shown IsPointOf IsReadablePoint (λ v. v.items) c.points_in.result
    (λ facts. placed_on (listed c.args.device.now) 0 (points_of facts c.args.device.now)) _ _ _ _
    c.in_ok-rows.ensures c.points_in.ensures (λ facts are. are.1) (λ facts sound. sound) (λ facts v are each. (are.0, points_read facts c.args.device.now v.items are.0 each))
