use Rattle.std.proofs.Common.{◌≡◌, ◌++◌, map, take}
use Rattle.std.specs.List.{flat_map}
use Rattle.table_seals.specs.Notes as say
use Rattle.table_seals.specs.Sealed.{sealed_month_of}
use Rattle.table_seals.proofs.notes.write_month_notes.Given as goal

abbrev pub invariant-loop-sealed : goal.invariant-loop-sealed
invariant-loop-sealed l =
    l.text.items ≡ l.initial.text.items ++ flat_map (say.month_note l.meter l.notes (map sealed_month_of l.now)) (map sealed_month_of (take l.sealed-index l.months))
