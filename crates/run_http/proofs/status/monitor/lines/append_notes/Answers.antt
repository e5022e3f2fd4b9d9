use Rattle.std.proofs.Common.{refl, arith}
use Rattle.run_http.specs.Status.Monitor.Lines as lines
use Rattle.office_events.proofs.Loops.{all_on, one_on}
use Rattle.run_http.proofs.status.monitor.lines.append_notes.Goals as goal

pub loop-note-preserved : goal.loop-note-preserved
loop-note-preserved c =
    one_on (lines.with_notes c.args.at c.args.name.now) (lines.with_note c.args.at c.args.name.now) (λ x xs t. refl) c.args.notes.now
    c.loop-note.note-index c.note-item.result c.loop-note.text.items c.append_note.new.text.items _ c.loop-note-test.true c.note-item.is c.loop-note.invariant c.in_ok-append_note.ensures

pub returns : goal.returns
returns c =
    all_on (lines.with_notes c.args.at c.args.name.now) (λ t. refl) c.args.notes.now c.loop-note.note-index c.loop-note.text.items _ (omega arith)
    c.loop-note.invariant
