use Rattle.std.proofs.Common.{◌≡◌, map, take}
use Rattle.table_seals.specs.Months.{month_of}
use Rattle.table_seals.specs.Sealed.{sealed_month_of}
use Rattle.table_seals.proofs.months.month_seals.Given as goal

abbrev pub invariant-loop-row : goal.invariant-loop-row
invariant-loop-row l = map sealed_month_of l.months.items ≡ map month_of (take l.row-index l.rows)
