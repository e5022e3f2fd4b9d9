use Rattle.std.proofs.Common.{◌≡◌, map, take}
use Rattle.table_seals.specs.Sealed.{line_bytes}
use Rattle.table_seals.specs.Setup.{gone}
use Rattle.table_seals.proofs.setup.gone_lines.Given as goal

abbrev pub invariant-loop-line : goal.invariant-loop-line
invariant-loop-line l = map line_bytes l.lines.items ≡ gone (map line_bytes l.present) (map line_bytes (take l.line-index l.sealed))
