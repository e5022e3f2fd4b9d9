use Rattle.std.proofs.Common.{◌≡◌, ◌++◌, map, take}
use Rattle.table_seals.specs.Sealed.{line_bytes}
use Rattle.table_seals.specs.Setup.{device_line, lines_in}
use Rattle.table_seals.proofs.setup.append_devices.Given as goal

abbrev pub invariant-loop-row : goal.invariant-loop-row
invariant-loop-row l = map line_bytes l.lines.items ≡ map line_bytes l.initial.lines.items ++ lines_in device_line (take l.row-index l.rows)
