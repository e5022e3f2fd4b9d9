use Rattle.std.proofs.Common.{◌≡◌, ◌++◌, take}
use Rattle.std.specs.List.{flat_map}
use Rattle.table_seals.specs.Texts.{text_of}
use Rattle.table_seals.proofs.texts.write_meters.Given as goal

abbrev pub invariant-loop-seal : goal.invariant-loop-seal
invariant-loop-seal l = l.text.items ≡ l.initial.text.items ++ flat_map text_of (take l.seal-index l.seals)
