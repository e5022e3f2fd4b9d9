use Rattle.std.proofs.Common.{◌≡◌, ◌++◌, take}
use Rattle.std.specs.List.{flat_map}
use Rattle.interval_core.specs.Lines.{share_line}
use Rattle.run_http.proofs.texts.meter_lines.write_share_lines.Given as goal

abbrev pub invariant-loop-row : goal.invariant-loop-row
invariant-loop-row l = l.text.items ≡ l.initial.text.items ++ flat_map share_line (take l.row-index l.rows)
