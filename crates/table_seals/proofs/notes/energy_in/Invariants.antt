use Rattle.std.proofs.Common.{◌≡◌, map, drop}
use Rattle.table_seals.specs.Notes as say
use Rattle.table_seals.specs.Sealed.{sealed_month_of}
use Rattle.table_seals.proofs.notes.energy_in.Given as goal

abbrev pub invariant-loop-other : goal.invariant-loop-other
invariant-loop-other l = say.energy_in (map sealed_month_of (drop l.other-index l.months)) l.month ≡ say.energy_in (map sealed_month_of l.months) l.month
