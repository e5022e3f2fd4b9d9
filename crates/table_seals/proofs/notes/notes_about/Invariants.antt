use Rattle.std.proofs.Common.{take}
use Rattle.table_seals.specs.Notes.{AreNotesOf}
use Rattle.table_seals.proofs.notes.notes_about.Given as goal

abbrev pub invariant-loop-void : goal.invariant-loop-void
invariant-loop-void l = AreNotesOf l.zone l.sealed (take l.void-index l.voids) l.notes.items
