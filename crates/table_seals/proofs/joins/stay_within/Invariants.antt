use Rattle.std.proofs.Common.{◌≡◌, drop}
use Rattle.table_seals.specs.Joins.{stay_within}
use Rattle.table_seals.proofs.joins.stay_within.Given as goal

abbrev pub invariant-loop-meter : goal.invariant-loop-meter
invariant-loop-meter l = stay_within l.left l.name (drop l.meter-index l.meters) ≡ stay_within l.most l.name l.meters
