use Rattle.std.proofs.Common.{◌≡◌, ◌++◌, take}
use Rattle.std.specs.List.{flat_map}
use Rattle.table_seals.specs.Texts.{pending_line}
use Rattle.table_seals.proofs.texts.write_pending.Given as goal

abbrev pub invariant-loop-poll : goal.invariant-loop-poll
invariant-loop-poll l = l.text.items ≡ l.initial.text.items ++ flat_map pending_line (take l.poll-index l.polls)
