use Rattle.std.proofs.Common.{◌≡◌, ◌++◌, take}
use Rattle.std.specs.List.{flat_map}
use Rattle.run_http.specs.Texts.MeterLines.{void_line}
use Rattle.run_http.proofs.texts.meter_lines.write_void_lines.Given as goal

abbrev pub invariant-loop-entry : goal.invariant-loop-entry
invariant-loop-entry l = l.text.items ≡ l.initial.text.items ++ flat_map void_line (take l.entry-index l.entries)
