use Rattle.std.proofs.Common.{◌≡◌, ◌++◌, take}
use Rattle.std.specs.List.{flat_map}
use Rattle.table_seals.specs.Texts.{void_line}
use Rattle.table_seals.proofs.texts.write_voids.Given as goal

abbrev pub invariant-loop-void : goal.invariant-loop-void
invariant-loop-void l = l.text.items ≡ l.initial.text.items ++ flat_map (void_line l.meter) (take l.void-index l.voids)
