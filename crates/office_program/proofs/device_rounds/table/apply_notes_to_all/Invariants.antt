use Rattle.std.proofs.Common.{◌≡◌, ◌++◌, map, take, drop}
use Rattle.office_program.specs.DeviceRounds.Rounds.{heard}
use Rattle.office_program.proofs.device_rounds.table.apply_notes_to_all.Given as goal

abbrev pub invariant-loop-round : goal.invariant-loop-round
invariant-loop-round l =
    l.rounds ≡ map (heard l.notes) (take l.round-index l.initial.rounds) ++ drop l.round-index l.initial.rounds
