use Rattle.std.proofs.Common.{◌≡◌, ◌++◌, take}
use Rattle.std.specs.List.{flat_map}
use Rattle.run_http.specs.Texts.RegisterLines.{meter_line}
use Rattle.run_http.proofs.texts.register_lines.write_meter_lines.Given as goal

abbrev pub invariant-loop-row : goal.invariant-loop-row
invariant-loop-row l = l.text.items ≡ l.initial.text.items ++ flat_map meter_line (take l.row-index l.rows)
