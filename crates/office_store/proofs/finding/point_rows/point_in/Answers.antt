use Rattle.store_tables.specs.Devices.Rows.{point_shown, IsPoint, IsSoundListed}
use Rattle.office_store.specs.Finding.Points.{IsPointOf, IsReadablePoint}
use Rattle.office_store.proofs.FindingLemmas.ReadRows.{reads_then}
use Rattle.office_store.proofs.FindingLemmas.Lists.{point_found}
use Rattle.office_store.proofs.finding.point_rows.point_in.Goals as goal

pub returns : goal.returns
returns c =
    reads_then c.args.row.now point_shown IsPoint IsPointOf IsSoundListed IsReadablePoint c.in_ok-found.found c.point_from.result c.in_ok-found.ensures.read (point_found c.in_ok-found.found c.point_from.result c.point_from.ensures)
