use Rattle.std.proofs.Common.{◌≡◌, ◌++◌, take}
use Rattle.std.specs.List.{flat_map}
use Rattle.run_http.specs.Texts.EnergyLines.{label_byte}
use Rattle.run_http.proofs.texts.energy_lines.write_label.Given as goal

abbrev pub invariant-loop-byte : goal.invariant-loop-byte
invariant-loop-byte l = l.text.items ≡ l.initial.text.items ++ flat_map label_byte (take l.byte-index l.value)
