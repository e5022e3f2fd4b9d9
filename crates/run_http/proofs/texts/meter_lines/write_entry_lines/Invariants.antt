use Rattle.std.proofs.Common.{◌≡◌, ◌++◌, take}
use Rattle.std.specs.List.{flat_map}
use Rattle.run_http.specs.Texts.MeterLines.{entry_line}
use Rattle.run_http.proofs.texts.meter_lines.write_entry_lines.Given as goal

abbrev pub invariant-loop-entry : goal.invariant-loop-entry
invariant-loop-entry l = l.text.items ≡ l.initial.text.items ++ flat_map entry_line (take l.entry-index l.entries)
