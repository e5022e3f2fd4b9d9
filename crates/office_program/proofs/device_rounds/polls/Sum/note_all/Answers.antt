use Rattle.std.proofs.Common.{refl, arith}
use Rattle.office_program.specs.DeviceRounds.Sums as sums
use Rattle.office_events.proofs.Loops.{all_on, one_on}
use Rattle.office_program.proofs.device_rounds.polls.Sum.note_all.Goals as goal

pub loop-note-preserved : goal.loop-note-preserved
loop-note-preserved c =
    one_on (sums.noted_all c.args.polls.now.items) (sums.noted c.args.polls.now.items) (λ x xs t. refl) c.args.notes.now c.loop-note.note-index c.note-item.result
    c.loop-note.self c.note.new.self _ c.loop-note-test.true c.note-item.is c.loop-note.invariant c.note.ensures

pub returns : goal.returns
returns c =
    all_on (sums.noted_all c.args.polls.now.items) (λ t. refl) c.args.notes.now c.loop-note.note-index c.loop-note.self _ (omega arith)
    c.loop-note.invariant
