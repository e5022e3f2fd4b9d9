use Rattle.std.proofs.Common.{◌≡◌, ◌++◌, take}
use Rattle.std.specs.List.{filter, flat_map}
use Rattle.table_seals.specs.Notes as say
use Rattle.table_seals.proofs.notes.write_causes.Given as goal

abbrev pub invariant-loop-note : goal.invariant-loop-note
invariant-loop-note l = l.text.items ≡ l.initial.text.items ++ flat_map say.cause_words (filter (say.touches l.month) (take l.note-index l.notes))
