use Rattle.std.proofs.Common.{refl, arith}
use Rattle.run_http.specs.Status.Status.Counts.{noted, noted_all}
use Rattle.office_events.proofs.Loops.{all_on, one_on}
use Rattle.run_http.proofs.status.status.counts.Counts.note_all.Goals as goal

pub loop-note-preserved : goal.loop-note-preserved
loop-note-preserved c =
    one_on noted_all noted (λ x xs t. refl) c.args.notes.now c.loop-note.note-index c.note-item.result c.loop-note.self c.note.new.self _ c.loop-note-test.true c.note-item.is
    c.loop-note.invariant c.note.ensures

pub returns : goal.returns
returns c = all_on noted_all (λ t. refl) c.args.notes.now c.loop-note.note-index c.loop-note.self _ (omega arith) c.loop-note.invariant
