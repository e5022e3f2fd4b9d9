use Rattle.store_tables.specs.Devices.Rows.{point_shown}
use Rattle.office_store.specs.Finding.Points.{IsPointOf}
use Rattle.office_store.proofs.FindingLemmas.ReadRows.{HasReadSome}
use Rattle.office_store.proofs.finding.point_rows.points_in.Given as goal

abbrev pub invariant-loop-row : goal.invariant-loop-row
invariant-loop-row l = HasReadSome l.rows.items point_shown IsPointOf l.row-index l.points.items
