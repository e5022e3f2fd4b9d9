use Rattle.std.proofs.Common.{◌≡◌, map, length}
use Rattle.table_seals.specs.Reading.{are_apart}
use Rattle.table_seals.specs.Sealed.{line_bytes}
use Rattle.table_seals.proofs.once.are_lines_apart.Given as goal

abbrev pub invariant-loop-line : goal.invariant-loop-line
invariant-loop-line l = are_apart (map line_bytes l.lines) ≡ are_apart (map line_bytes l.rest)

abbrev pub decreases-loop-line : goal.decreases-loop-line
decreases-loop-line l = length l.rest
