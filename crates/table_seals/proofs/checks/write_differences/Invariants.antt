use Rattle.std.proofs.Common.{◌≡◌, ◌++◌, take}
use Rattle.std.specs.List.{flat_map}
use Rattle.table_seals.specs.Texts.{difference_line}
use Rattle.table_seals.proofs.checks.write_differences.Given as goal

abbrev pub invariant-loop-meter : goal.invariant-loop-meter
invariant-loop-meter l = l.text.items ≡ l.initial.text.items ++ flat_map difference_line (take l.meter-index l.meters)
