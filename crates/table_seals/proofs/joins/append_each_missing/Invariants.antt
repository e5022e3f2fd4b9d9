use Rattle.std.proofs.Common.{◌≡◌, ◌++◌, take, map}
use Rattle.std.specs.List.{flat_map}
use Rattle.table_seals.specs.Joins.{known_of, missing_of}
use Rattle.table_seals.specs.JoinTexts.{join_line, texts_of}
use Rattle.table_seals.proofs.joins.append_each_missing.Given as goal

abbrev pub invariant-loop-old : goal.invariant-loop-old
invariant-loop-old l = texts_of l.lines.items
    ≡ texts_of l.initial.lines.items ++ flat_map (λ old. map join_line (missing_of (known_of l.next) old)) (take l.old-index l.latest)
