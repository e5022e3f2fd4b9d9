use Rattle.std.proofs.Common.{◌≡◌, ◌++◌, take}
use Rattle.std.specs.List.{flat_map}
use Rattle.table_seals.specs.Notes.{void_note_line}
use Rattle.table_seals.proofs.notes.write_void_notes.Given as goal

abbrev pub invariant-loop-note : goal.invariant-loop-note
invariant-loop-note l = l.text.items ≡ l.initial.text.items ++ flat_map (void_note_line l.meter) (take l.note-index l.notes)
