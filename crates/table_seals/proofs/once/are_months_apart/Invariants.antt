use Rattle.std.proofs.Common.{◌≡◌, map, length}
use Rattle.table_seals.specs.Reading.{are_apart}
use Rattle.table_seals.specs.Sealed.{sealed_month_of}
use Rattle.table_seals.proofs.once.are_months_apart.Given as goal

abbrev pub invariant-loop-month : goal.invariant-loop-month
invariant-loop-month l =
    are_apart (map (λ month. month.month) (map sealed_month_of l.months)) ≡ are_apart (map (λ month. month.month) (map sealed_month_of l.rest))

abbrev pub decreases-loop-month : goal.decreases-loop-month
decreases-loop-month l = length l.rest
