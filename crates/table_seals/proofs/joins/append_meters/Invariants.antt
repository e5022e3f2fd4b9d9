use Rattle.std.proofs.Common.{◌≡◌, ◌++◌, take, map}
use Rattle.std.specs.List.{flat_map}
use Rattle.table_seals.specs.Joins.{joins_of}
use Rattle.table_seals.specs.JoinTexts.{join_line, texts_of}
use Rattle.table_seals.proofs.joins.append_meters.Given as goal

abbrev pub invariant-loop-new : goal.invariant-loop-new
invariant-loop-new l = texts_of l.lines.items
    ≡ texts_of l.initial.lines.items ++ flat_map (λ new. map join_line (joins_of l.known new)) (take l.new-index l.next)
