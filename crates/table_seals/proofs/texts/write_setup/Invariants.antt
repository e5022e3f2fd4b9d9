use Rattle.std.proofs.Common.{◌≡◌, ◌++◌, take}
use Rattle.std.specs.List.{flat_map}
use Rattle.table_seals.specs.Texts.{setup_line_of}
use Rattle.table_seals.proofs.texts.write_setup.Given as goal

abbrev pub invariant-loop-line : goal.invariant-loop-line
invariant-loop-line l = l.text.items ≡ l.initial.text.items ++ flat_map setup_line_of (take l.line-index l.setup)
