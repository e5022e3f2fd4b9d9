use Rattle.std.proofs.Common.{◌≡◌, drop}
use Rattle.office_program.specs.DeviceRounds.Sums as sums
use Rattle.office_program.proofs.device_rounds.polls.Sum.note_all.Given as goal

abbrev pub invariant-loop-note : goal.invariant-loop-note
invariant-loop-note l =
    sums.noted_all l.polls.items (drop l.note-index l.notes) l.self ≡ sums.noted_all l.polls.items l.notes l.initial.self
